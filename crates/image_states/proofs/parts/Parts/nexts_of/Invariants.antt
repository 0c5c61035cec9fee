use Rattle.std.proofs.Common.{◌<◌, ℕ, suc}
use Rattle.image_states.specs.Nexts.{may_of, IsDone}
use Rattle.image_states.specs.Packed.{IsGrown}
use Rattle.image_states.proofs.parts.Parts.nexts_of.Given as goal

abbrev pub invariant-loop-k : goal.invariant-loop-k
invariant-loop-k l = record {
  grown : IsGrown l.fn.self l.self;
  done : (j : ℕ) → j < l.k → IsDone l.image (may_of l.outside) l.self l.packed l.found.items (suc j);
}
