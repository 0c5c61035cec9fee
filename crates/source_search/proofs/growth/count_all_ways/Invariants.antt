use Rattle.std.proofs.Common.{◌≡◌, ℕ, Some, length, slice_get, suc}
use Rattle.source_search.specs.Growth.{HasStood}
use Rattle.source_search.specs.Kept.{states_in}
use Rattle.source_search.proofs.growth.count_all_ways.Given as goal

abbrev pub invariant-loop-place : goal.invariant-loop-place
invariant-loop-place l = record {
  count : length l.counts.items ≡ l.place;
  each : (k n : ℕ) → slice_get l.counts.items k ≡ Some n → HasStood (states_in l.parts l.states) (suc k) n;
}
