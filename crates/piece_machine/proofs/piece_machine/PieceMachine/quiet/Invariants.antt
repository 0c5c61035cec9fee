use Rattle.std.proofs.Common.{ℕ, ◌<◌, ◌≤◌}
use Rattle.machine.specs.PieceSteps.{CanTakePiece}
use Rattle.piece_machine.specs.PieceViews.{pieces}
use Rattle.piece_machine.proofs.piece_machine.PieceMachine.quiet.Given as goal

abbrev pub invariant-loop-t : goal.invariant-loop-t
invariant-loop-t l = (u : ℕ) → 0 < u → u ≤ l.t → CanTakePiece l.self.view.program (pieces l.self) u → ⊥
