use Rattle.std.proofs.Common.{◌≤◌, ◌-◌}
use Rattle.piece_machine.specs.PieceViews.{parts}
use Rattle.runner.proofs.Noting.{IsHeldUpTo}
use Rattle.runner.proofs.passing_over.Waiting.next_free.Given as goal

abbrev pub invariant-loop-t : goal.invariant-loop-t
invariant-loop-t l = record {
  held : IsHeldUpTo l.machine.view.program (parts l.machine) l.from l.at;
  above : l.from ≤ l.at;
  few : l.at ≤ 1024;
}

abbrev pub decreases-loop-t : goal.decreases-loop-t
decreases-loop-t l = 1024 - l.at
