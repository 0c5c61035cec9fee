use Rattle.proof_thread.proofs.Settling.{settled}
use Rattle.proof_thread.proofs.Holding.{held}
use Rattle.proof_thread.proofs.Followed.{followed}
use Rattle.proof_thread.proofs.law.code_goes_as_its_process.Goals as goal

pub returns-clause-settles : goal.returns-clause-settles
returns-clause-settles c = settled

pub returns-clause-holds : goal.returns-clause-holds
returns-clause-holds c = held

pub returns-clause-goes : goal.returns-clause-goes
returns-clause-goes c = followed
