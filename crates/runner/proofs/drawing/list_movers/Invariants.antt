use Rattle.std.proofs.Common.{◌≡◌, ◌<◌, ◌≤◌, ◌-◌, ◌⊎◌, ℕ, suc, length, slice_get, true, Some}
use Rattle.std.specs.List.{All}
use Rattle.words.specs.Limits.{most_threads}
use Rattle.machine.specs.ConcreteSteps.{can_move}
use Rattle.machine.specs.Views.{concrete}
use Rattle.runner.specs.Rounds.{IsDrawn}
use Rattle.runner.specs.Seeds.{is_mover, marked, those}
use Rattle.runner.proofs.drawing.list_movers.Given as goal

abbrev pub invariant-loop-t : goal.invariant-loop-t
invariant-loop-t l = record {
  from_one : 0 < l.from;
  within : l.from ≤ suc most_threads;
  drawn : All (IsDrawn (concrete l.machine) l.refused l.passed) l.movers.items;
  few : length l.movers.items < l.from;
  none : length l.movers.items ≡ 0 → (u : ℕ) → u < l.from → can_move (concrete l.machine) u ≡ true
      → (slice_get l.refused u ≡ Some true) ⊎ (slice_get l.passed u ≡ Some true);
  made : l.from ≤ suc (length (concrete l.machine).threads);
  all : (n : ℕ) → suc n ≡ l.from
      → l.movers.items ≡ those (is_mover (concrete l.machine) (marked l.refused) (marked l.passed)) n;
}

abbrev pub decreases-loop-t : goal.decreases-loop-t
decreases-loop-t l = suc most_threads - l.from
