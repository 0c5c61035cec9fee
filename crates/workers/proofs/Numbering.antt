-- Each parker is that of the thread with its number.
use Rattle.std.proofs.Common.{◌≡◌, ◌∙◌, ◌⊎◌, ℕ, zero, suc, ◌++◌, List, [], ◌∷◌, length, slice_get, Some, refl, ap, sym, inl, inr}
use Rattle.crossbeam_utils.specs.declared.cache_padded.CachePadded.{CachePadded}
use Rattle.crossbeam_utils.specs.Padded.{padded_value}
use Rattle.workers.specs.declared.parker.Parker.{Parker}
use Rattle.workers.specs.Parkers.{AreNumbered}

-- one of a list with one more is one of the list, or the last
last_or : (ps : List (CachePadded Parker)) (p x : CachePadded Parker) (t : ℕ)
    → slice_get (ps ++ p ∷ []) t ≡ Some x → (slice_get ps t ≡ Some x) ⊎ ((t ≡ length ps) × (p ≡ x))
last_or [] p x zero h = inr (refl, cc)
last_or [] p x (suc t) h = absurd cc
last_or (q ∷ qs) p x zero h = inl h
last_or (q ∷ qs) p x (suc t) h = elim (last_or qs p x t h) [
  | inl before ↦ inl before
  | inr last ↦ inr (ap suc last.0, last.1)
]

-- one more of the next number
pub numbered_more : (ps : List (CachePadded Parker)) (p : CachePadded Parker) → AreNumbered ps
    → (padded_value p).thread ≡ length ps → AreNumbered (ps ++ p ∷ [])
numbered_more ps p are is t x h = elim (last_or ps p x t h) [
  | inl before ↦ are t x before
  | inr last ↦ ap (λ (q : CachePadded Parker). (padded_value q).thread) (sym last.1) ∙ (is ∙ sym last.0)
]

pub numbered_none : AreNumbered []
numbered_none t p h = absurd cc
