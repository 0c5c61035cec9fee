use Rattle.std.proofs.Common.{◌<◌, ℕ, suc}
use Rattle.isa.specs.Programs.{Program}
use Rattle.image_states.specs.Ends.{IsLive}
use Rattle.image_states.specs.Packed.{unpacked}
use Rattle.image_states.proofs.parts.Parts.some_is_live.Given as goal

abbrev pub invariant-loop-k : goal.invariant-loop-k
invariant-loop-k l = (p : Program) (j : ℕ) → j < l.k → IsLive (unpacked p l.self l.packed) (suc j) → ⊥
