use Rattle.std.proofs.Common.{◌<◌, ℕ, suc}
use Rattle.image_states.specs.Ends.{IsFailingAt}
use Rattle.image_states.specs.Packed.{unpacked}
use Rattle.image_states.proofs.parts.Parts.has_failed.Given as goal

abbrev pub invariant-loop-k : goal.invariant-loop-k
invariant-loop-k l = (j : ℕ) → j < l.k → IsFailingAt (unpacked l.image l.self l.packed) (suc j) → ⊥
