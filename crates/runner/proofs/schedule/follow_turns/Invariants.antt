use Rattle.std.proofs.Common.{◌≡◌, ◌<◌, ◌^◌, take}
use Rattle.piece_machine.specs.PieceViews.{parts}
use Rattle.runner.specs.Schedules.{Follows}
use Rattle.runner.proofs.schedule.follow_turns.Given as goal

abbrev pub invariant-loop-turn : goal.invariant-loop-turn
invariant-loop-turn l = record {
  follows : Follows l.fn.machine.view.program (take l.turn-index l.schedule) l.log.items (parts l.machine);
  number : l.number ≡ l.turn-index;
  few : l.number < 2 ^ 32;
  program : l.machine.view.program ≡ l.fn.machine.view.program;
}
