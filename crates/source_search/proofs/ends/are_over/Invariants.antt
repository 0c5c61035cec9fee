use Rattle.std.proofs.Common.{◌<◌, ℕ, suc}
use Rattle.proof_exploration.specs.Blocking.{GoesOn}
use Rattle.source_search.specs.Packed.{unpacked}
use Rattle.source_search.proofs.ends.are_over.Given as goal

abbrev pub invariant-loop-place : goal.invariant-loop-place
invariant-loop-place l = (k : ℕ) → k < l.place → GoesOn (unpacked l.parts l.packed) (suc k) → ⊥
