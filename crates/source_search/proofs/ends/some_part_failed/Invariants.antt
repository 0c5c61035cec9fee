use Rattle.std.proofs.Common.{◌<◌, ℕ, suc}
use Rattle.source_search.specs.Found.{FailedAt}
use Rattle.source_search.specs.Packed.{unpacked}
use Rattle.source_search.proofs.ends.some_part_failed.Given as goal

abbrev pub invariant-loop-place : goal.invariant-loop-place
invariant-loop-place l = (k : ℕ) → k < l.place → FailedAt l.outside (unpacked l.parts l.packed) (suc k) → ⊥
