use Rattle.std.proofs.Common.{◌≡◌, ◌≤◌, length}
use Rattle.std.specs.List.{All}
use Rattle.machine.specs.Views.{concrete}
use Rattle.runner.specs.Rounds.{IsAsleep}
use Rattle.runner.specs.Seeds.{is_asleep, those}
use Rattle.runner.proofs.drawing.list_sleepers.Given as goal

abbrev pub invariant-loop-before : goal.invariant-loop-before
invariant-loop-before l = record {
  asleep : All (IsAsleep (concrete l.machine)) l.sleepers.items;
  few : length l.sleepers.items ≤ l.before;
  all : l.sleepers.items ≡ those (is_asleep (concrete l.machine)) l.before;
}
