use Rattle.proof_thread.proofs.Followed.{followed}
use Rattle.proof_thread.proofs.Settling.{settled}
use Rattle.proof_thread.proofs.Holding.{held}
use Rattle.refinement.specs.Built.{build_of}
use Rattle.refinement.proofs.Building.{is_build}
use Rattle.refinement.proofs.law.code_of_processes_follows.Goals as goal

pub returns-clause-stands : goal.returns-clause-stands
returns-clause-stands c = is_build

pub returns-clause-goes : goal.returns-clause-goes
returns-clause-goes c = λ p w made. followed (build_of p w made) (is_build p w made)

pub returns-clause-settles : goal.returns-clause-settles
returns-clause-settles c = λ p w made. settled (build_of p w made) (is_build p w made)

pub returns-clause-holds : goal.returns-clause-holds
returns-clause-holds c = λ p w made. held (build_of p w made) (is_build p w made)
