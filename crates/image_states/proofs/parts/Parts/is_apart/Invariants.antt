use Rattle.std.proofs.Common.{◌<◌, suc, ℕ}
use Rattle.image_states.specs.Ends.{IsApartAt}
use Rattle.image_states.specs.Packed.{unpacked}
use Rattle.image_states.proofs.parts.Parts.is_apart.Given as goal

abbrev pub invariant-loop-k : goal.invariant-loop-k
invariant-loop-k l = (j : ℕ) → j < l.k → IsApartAt l.image (unpacked l.image l.self l.packed) (suc j)
