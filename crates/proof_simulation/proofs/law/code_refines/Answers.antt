use Rattle.proof_simulation.proofs.Refining.{refines_in_pieces}
use Rattle.proof_simulation.proofs.Whole.{refines}
use Rattle.proof_simulation.proofs.law.code_refines.Goals as goal

pub returns-clause-whole : goal.returns-clause-whole
returns-clause-whole c = refines

pub returns-clause-pieces : goal.returns-clause-pieces
returns-clause-pieces c = refines_in_pieces
