-- What a machine shows to a follower.
use Rattle.machine.specs.States.{State}
use Rattle.piece_machine.specs.PieceViews.{PieceView, pieces}
use Rattle.proof_pieces.specs.Whole.{whole}

-- the state of whole calls: who has committed to sleep sleeps already
abbrev pub shown : PieceView → State
shown v = whole v.view.program (pieces v)
