-- The least of faults and one more.
use Rattle.std.proofs.Common.{◌≡◌, inl, inr, List, [], ◌∷◌, ◌++◌, Some}
use Rattle.std.proofs.Common.{refl, sym, subst, arith, zero, suc}
use Rattle.std.specs.List.{Contains}
use Rattle.std.proofs.lemmas.List.Elements.{Contains-append_left, Contains-append_right, Contains-append_cases}
use Rattle.scanner.specs.declared.refusal.Refusal.{Refusal}
use Rattle.types.specs.Faults.{ComesNoLater, IsLeastOf}

pub no_later_itself : (e : Refusal) → ComesNoLater e e
no_later_itself e = inr (refl, inr (refl, omega arith))

pub no_later_through : (e f g : Refusal) → ComesNoLater e f → ComesNoLater f g → ComesNoLater e g
no_later_through e f g h k = grind arith

in_one : (e f : Refusal) → Contains (e ∷ []) f → e ≡ f
in_one e f (zero, h, p) = p
in_one e f (suc k, h, p) = absurd (omega (arith, h))

the_one : (e : Refusal) → Contains (e ∷ []) e
the_one e = (0, omega arith, refl)

pub least_first : (es : List Refusal) (e : Refusal) → es ≡ [] → IsLeastOf (es ++ e ∷ []) (Some e)
least_first es e h = subst (λ xs. IsLeastOf (xs ++ e ∷ []) (Some e)) (sym h)
    (the_one e, λ f c. subst (λ x. ComesNoLater e x) (in_one e f c) (no_later_itself e))

pub least_stays : (es : List Refusal) (e f : Refusal) → IsLeastOf es (Some e) → ComesNoLater e f
    → IsLeastOf (es ++ f ∷ []) (Some e)
least_stays es e f h k = (
  Contains-append_left es (f ∷ []) e h.0,
  λ g c. elim (Contains-append_cases es
      (f ∷ []) g c) [
        | inl a ↦ h.1 g a
        | inr a ↦ subst (λ x. ComesNoLater e x) (in_one f g a) k
      ],
)

pub least_taken : (es : List Refusal) (e f : Refusal) → IsLeastOf es (Some e) → ComesNoLater f e
    → IsLeastOf (es ++ f ∷ []) (Some f)
least_taken es e f h k = (
  Contains-append_right es (f ∷ []) f (the_one f),
  λ g c. elim
      (Contains-append_cases es (f ∷ []) g c) [
        | inl a ↦ no_later_through f e g k (h.1 g a)
        | inr a ↦ subst (λ x. ComesNoLater f x) (in_one f g a) (no_later_itself f)
      ],
)
