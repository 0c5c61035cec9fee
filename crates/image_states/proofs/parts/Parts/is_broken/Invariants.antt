use Rattle.std.proofs.Common.{◌<◌, ℕ, suc}
use Rattle.machine.specs.Runs.{NextIsBroken}
use Rattle.image_states.specs.Packed.{unpacked}
use Rattle.image_states.proofs.parts.Parts.is_broken.Given as goal

abbrev pub invariant-loop-k : goal.invariant-loop-k
invariant-loop-k l = (j : ℕ) → j < l.k → NextIsBroken l.image (unpacked l.image l.self l.packed) (suc j) → ⊥
