use Rattle.std.proofs.Common.{◌≡◌, length, map, take}
use Rattle.piece_machine.specs.PieceViews.{parts}
use Rattle.runner.specs.Logs.{cost}
use Rattle.runner.specs.LogSchedules.{FollowsLog, shape_of}
use Rattle.runner.proofs.log_schedule.follow_entries.Given as goal

abbrev pub invariant-loop-entry : goal.invariant-loop-entry
invariant-loop-entry l = record {
  follows : FollowsLog l.fn.machine.view.program (map shape_of (take (length l.yielded) l.fn.entries)) l.log.items (parts l.machine);
  steps : l.steps ≡ cost l.log.items;
  number : l.number ≡ length l.yielded;
  program : l.machine.view.program ≡ l.fn.machine.view.program;
}
