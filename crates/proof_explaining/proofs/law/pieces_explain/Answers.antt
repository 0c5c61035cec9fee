use Rattle.proof_explaining.proofs.Along.{trace_of_pieces, pieces_reach, piece_due, pieces_explained}
use Rattle.proof_explaining.proofs.law.pieces_explain.Goals as goal

pub returns-clause-traced : goal.returns-clause-traced
returns-clause-traced c = trace_of_pieces

pub returns-clause-reached : goal.returns-clause-reached
returns-clause-reached c = pieces_reach

pub returns-clause-due : goal.returns-clause-due
returns-clause-due c = piece_due

pub returns-clause-explained : goal.returns-clause-explained
returns-clause-explained c = pieces_explained
