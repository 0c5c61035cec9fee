use Rattle.std.proofs.Common.{◌≡◌, ◌≤◌, length}
use Rattle.std.specs.List.{All}
use Rattle.machine.specs.Views.{concrete}
use Rattle.runner.specs.Rounds.{IsUnrefused}
use Rattle.runner.specs.Seeds.{is_living, marked, those}
use Rattle.runner.proofs.drawing.list_living.Given as goal

abbrev pub invariant-loop-before : goal.invariant-loop-before
invariant-loop-before l = record {
  living : All (IsUnrefused (concrete l.machine) l.refused) l.living.items;
  few : length l.living.items ≤ l.before;
  all : l.living.items ≡ those (is_living (concrete l.machine) (marked l.refused)) l.before;
}
