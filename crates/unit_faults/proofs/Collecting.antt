-- Faults that a relation tells, collected one relation after another.
use Rattle.std.proofs.Common.{◌≡◌, ◌⊎◌, inl, inr, List, [], ◌∷◌, Option, Some, None, refl, sym, subst, zero, suc}
use Rattle.std.proofs.Common.{arith}
use Rattle.std.specs.List.{Contains}
use Rattle.std.proofs.lemmas.Option.{none-some, same_Some}
use Rattle.scanner.specs.declared.refusal.Refusal.{Refusal}
use Rattle.types.specs.Faults.{ComesNoLater, IsLeastOf, Gathers}
use Rattle.types.proofs.Leasts.{no_later_itself, no_later_through}
use Rattle.unit_faults.specs.Collected.{Collects}

-- relations that tell no fault
pub collects_none : (P : Refusal → Type 0) (a : Option Refusal) → ((e : Refusal) → P e → ⊥) → Collects P a a
collects_none P None h = λ e c. elim c [ inl q ↦ absurd (none-some e q) | inr p ↦ h e p ]
collects_none P (Some a) h = (
  inl refl,
  λ f c. elim c [
    | inl q ↦ subst (λ x. ComesNoLater a x) (same_Some a f q) (no_later_itself a)
    | inr p ↦ absurd (h f p)
  ],
)

-- two relations, one after the other
pub collects_both : (P Q R : Refusal → Type 0) (a b c : Option Refusal) → ((e : Refusal) → P e → R e)
    → ((e : Refusal) → Q e → R e) → ((e : Refusal) → R e → P e ⊎ Q e) → Collects P a b → Collects Q b c
    → Collects R a c
collects_both P Q R a None None p q r h k = λ e w. elim w [
  | inl ae ↦ h e (inl ae)
  | inr re ↦ elim (r e re) [ inl pe ↦ h e (inr pe) | inr qe ↦ k e (inr qe) ]
]
collects_both P Q R a (Some b) None p q r h k = λ e w. absurd (k b (inl refl))
collects_both P Q R a None (Some c) p q r h k = (
  elim k.0 [ inl e ↦ absurd (none-some c e) | inr qc ↦ inr (q c qc) ],
  λ f w. elim w [
    | inl af ↦ absurd (h f (inl af))
    | inr rf ↦ elim (r f rf) [ inl pf ↦ absurd (h f (inr pf)) | inr qf ↦ k.1 f (inr qf) ]
  ],
)
collects_both P Q R a (Some b) (Some c) p q r h k =
    let first : (a ≡ Some b) ⊎ R b = elim h.0 [ inl e ↦ inl e | inr pb ↦ inr (p b pb) ] in
    let least : ComesNoLater c b = k.1 b (inl refl) in (
      elim k.0 [
        | inl e ↦ subst (λ x. (a ≡ Some x) ⊎ R x) (same_Some b c e) first
        | inr qc ↦ inr (q c qc)
      ],
      λ f w. elim w [
        | inl af ↦ no_later_through c b f least (h.1 f (inl af))
        | inr rf ↦ elim (r f rf) [
          | inl pf ↦ no_later_through c b f least (h.1 f (inr pf))
          | inr qf ↦ k.1 f (inr qf)
        ]
      ],
    )

-- one of two relations, and then the other
pub collects_sum : (P Q : Refusal → Type 0) (a b c : Option Refusal) → Collects P a b → Collects Q b c
    → Collects (λ e. P e ⊎ Q e) a c
collects_sum P Q a b c h k =
    collects_both P Q (λ e. P e ⊎ Q e) a b c (λ e p. inl p) (λ e q. inr q) (λ e r. r) h k

-- two relations that tell the same
pub collects_same : (P Q : Refusal → Type 0) (a b : Option Refusal) → ((e : Refusal) → P e → Q e)
    → ((e : Refusal) → Q e → P e) → Collects P a b → Collects Q a b
collects_same P Q a b to from h =
    collects_both P (λ e. ⊥) Q a b b to (λ e x. absurd x) (λ e q. inl (from e q)) h (collects_none (λ e. ⊥) b
    (λ e x. x))

contained : (e f : Refusal) → Contains (e ∷ []) f → e ≡ f
contained e f (zero, h, p) = p
contained e f (suc k, h, p) = absurd (omega (arith, h))

the_one : (e : Refusal) → Contains (e ∷ []) e
the_one e = (0, omega arith, refl)

none_contained : (e : Refusal) → Contains [] e → ⊥
none_contained e (k, h, p) = omega (arith, h)

one_less : (a : Refusal) (fs : List Refusal) (e : Refusal) → Contains (a ∷ fs) e → (a ≡ e) ⊎ Contains fs e
one_less a fs e (zero, h, p) = inl p
one_less a fs e (suc k, h, p) = inr (k, omega (arith, h), p)

one_more : (a : Refusal) (fs : List Refusal) (e : Refusal) → Contains fs e → Contains (a ∷ fs) e
one_more a fs e (k, h, p) = (suc k, omega (arith, h), p)

by_none : (fs : List Refusal) (b : Option Refusal) → IsLeastOf fs b → Collects (Contains fs) None b
by_none fs None h = λ e c. elim c [
  | inl q ↦ none-some e q
  | inr k ↦ none_contained e (subst (λ xs. Contains xs e) h k)
]
by_none fs (Some b) h = (
  inr h.0,
  λ f c. elim c [ inl q ↦ absurd (none-some f q) | inr k ↦ h.1 f k ],
)

by_some : (a : Refusal) (fs : List Refusal) (b : Option Refusal) → IsLeastOf (a ∷ fs) b
    → Collects (Contains fs) (Some a) b
by_some a fs None h = let w : a ∷ fs ≡ [] = h in cc
by_some a fs (Some b) h = (
  elim (one_less a fs b h.0) [ inl e ↦ inl (subst (λ x. Some a ≡ Some x) e refl) | inr k ↦ inr k ],
  λ f c. elim c [
    | inl q ↦ h.1 f (subst (λ x. Contains (a ∷ fs) x) (same_Some a f q) (0, omega arith, refl))
    | inr k ↦ h.1 f (one_more a fs f k)
  ],
)

-- faults of a list
pub collects_list : (fs : List Refusal) (a b : Option Refusal) → Gathers fs a b → Collects (Contains fs) a b
collects_list fs None b g = by_none fs b (g [] refl)
collects_list fs (Some a) b g =
    by_some a fs b (g (a ∷ []) (the_one a, λ f c. subst (λ x. ComesNoLater a x) (contained a f c) (no_later_itself a)))

-- one fault
pub collects_one : (e : Refusal) (a b : Option Refusal) → Gathers (e ∷ []) a b → Collects (λ f. f ≡ e) a b
collects_one e a b g =
    collects_same (Contains (e ∷ [])) (λ f. f ≡ e) a b (λ f c. sym (contained e f c))
    (λ f q. subst (λ x. Contains (e ∷ []) x) (sym q) (the_one e)) (collects_list (e ∷ []) a b g)

-- fewer faults, where none of the others is the least
pub collects_fewer : (P Q : Refusal → Type 0) (a : Option Refusal) → ((e : Refusal) → P e → Q e) → Collects Q a a
    → Collects P a a
collects_fewer P Q None to h = λ e w. elim w [ inl q ↦ h e (inl q) | inr p ↦ h e (inr (to e p)) ]
collects_fewer P Q (Some a) to h = (
  inl refl,
  λ f w. elim w [ inl q ↦ h.1 f (inl q) | inr p ↦ h.1 f (inr (to f p)) ],
)

-- a fault that comes no earlier than the least one
pub collects_behind : (first e : Refusal) (a : Option Refusal) → a ≡ Some first → ComesNoLater first e
    → Collects (λ f. f ≡ e) a a
collects_behind first e a s h = subst (λ o. Collects (λ f. f ≡ e) o o) (sym s) (
  inl refl,
  λ f w. elim w [
    | inl q ↦ subst (λ x. ComesNoLater first x) (same_Some first f q) (no_later_itself first)
    | inr p ↦ subst (λ x. ComesNoLater first x) (sym p) h
  ],
)
