use Rattle.std.proofs.Common.{◌≡◌, ◌<◌, ℕ, slice_get, slice_set}
use Rattle.source_search.proofs.packed.begin_so.Given as goal

abbrev pub invariant-loop-k : goal.invariant-loop-k
invariant-loop-k l = (j : ℕ) → j < l.k → slice_get l.numbers j ≡ slice_get (slice_set l.others l.place l.part) j
