use Rattle.std.proofs.Common.{◌≡◌, ◌<◌, Some, suc, ℕ}
use Rattle.proof_image_search.specs.Searching.{IsExitWord}
use Rattle.robustexit.specs.declared.phase.ExitPhase.TheVariants.{Ended}
use Rattle.locals.specs.Threads.{Exits}
use Rattle.image_states.specs.Packed.{thread_at}
use Rattle.image_states.proofs.parts.Parts.spares.Given as goal

abbrev pub invariant-loop-k : goal.invariant-loop-k
invariant-loop-k l = (j : ℕ) → j < l.k → thread_at l.self.locals.items l.packed.parts.items (suc j) ≡ Some (Exits Ended)
    → IsExitWord (suc j) l.a.0 → ⊥
