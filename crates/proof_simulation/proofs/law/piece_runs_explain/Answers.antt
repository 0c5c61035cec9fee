use Rattle.proof_simulation.proofs.Refining.{traced_in_pieces}
use Rattle.proof_simulation.proofs.law.piece_runs_explain.Goals as goal

pub returns : goal.returns
returns c = traced_in_pieces
