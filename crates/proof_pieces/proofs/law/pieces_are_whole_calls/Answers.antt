use Rattle.proof_pieces.proofs.Runs.{held_kept, reduces, runs_so, which}
use Rattle.proof_pieces.proofs.law.pieces_are_whole_calls.Goals as goal

pub returns-clause-held : goal.returns-clause-held
returns-clause-held c = held_kept

pub returns-clause-reduces : goal.returns-clause-reduces
returns-clause-reduces c = reduces

pub returns-clause-tells : goal.returns-clause-tells
returns-clause-tells c = which

pub returns-clause-runs : goal.returns-clause-runs
returns-clause-runs c = runs_so
