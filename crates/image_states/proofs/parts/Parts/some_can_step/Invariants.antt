use Rattle.std.proofs.Common.{◌<◌, ℕ, suc}
use Rattle.isa.specs.Programs.{Program}
use Rattle.machine.specs.Runs.{CanStep}
use Rattle.image_states.specs.Packed.{unpacked}
use Rattle.image_states.proofs.parts.Parts.some_can_step.Given as goal

abbrev pub invariant-loop-k : goal.invariant-loop-k
invariant-loop-k l = (p : Program) (j : ℕ) → j < l.k → CanStep (unpacked p l.self l.packed) (suc j) → ⊥
