-- Faults of elements of a list, each told by the element and those before it.
use Rattle.std.proofs.Common.{◌≡◌, ◌⊎◌, inl, inr, ℕ, ◌<◌, ◌≤◌, ◌+◌, List, [], ◌∷◌, ◌++◌, Option, Some, length, take}
use Rattle.std.proofs.Common.{get_or, map, refl, sym, ap, ◌∙◌, subst, arith}
use Rattle.std.specs.Prelude.{slice_get}
use Rattle.std.proofs.lemmas.Option.{none-some, same_Some, slice_get_within, slice_get-get_or, get_or_from_slice_get}
use Rattle.std.proofs.lemmas.List.{take_more, take_all, take-append-le, take_at, get_or_append_left, get_or_at}
use Rattle.std.proofs.lemmas.Bool.{cases_lt}
use Rattle.std.proofs.lemmas.List.{length_push, get_or-map, length-map}
use Rattle.scanner.specs.declared.refusal.Refusal.{Refusal}
use Rattle.unit_faults.specs.Collected.{Collects}
use Rattle.unit_faults.proofs.Collecting.{collects_none, collects_both}

-- a fault of an element
abbrev pub Along : {X : Type 0} → (List X → X → Refusal → Type 0) → List X → Refusal → Type 0
Along {X} At xs e = (i : ℕ) × (x : X) × (slice_get xs i ≡ Some x) × At (take i xs) x e

get_left : {X : Type 0} (xs : List X) (y x : X) (i : ℕ) → slice_get xs i ≡ Some x → slice_get (xs ++ y ∷ []) i ≡ Some x
get_left xs y x i e =
    let h : i < length xs = slice_get_within xs i x e in
    slice_get-get_or (xs ++ y ∷ []) i x (omega (arith, length_push xs y, h))
    ∙ ap (λ z. Some z) (get_or_append_left xs (y ∷ []) x i h ∙ get_or_from_slice_get xs i x x e)

get_last : {X : Type 0} (xs : List X) (y : X) → slice_get (xs ++ y ∷ []) (length xs) ≡ Some y
get_last xs y = slice_get-get_or (xs ++ y ∷ []) (length xs) y (omega (arith, length_push xs y))
    ∙ ap (λ z. Some z) (get_or_at xs y [] y (length xs) refl)

taken_left : {X : Type 0} (At : List X → X → Refusal → Type 0) (xs : List X) (y : X) (e : Refusal)
    → Along At xs e → Along At (xs ++ y ∷ []) e
taken_left At xs y e (i, x, g, a) =
    let h : i < length xs = slice_get_within xs i x g in
    (i, x, get_left xs y x i g, subst (λ zs. At zs x e) (sym (take-append-le i xs (y ∷ []) (omega (arith, h)))) a)

taken_last : {X : Type 0} (At : List X → X → Refusal → Type 0) (xs : List X) (y : X) (e : Refusal)
    → At xs y e → Along At (xs ++ y ∷ []) e
taken_last At xs y e a =
    (length xs, y, get_last xs y, subst (λ zs. At zs y e) (sym (take_at xs (y ∷ []) (length xs) refl)) a)

same_place : (i n : ℕ) → i < n + 1 → (i < n) ⊎ (i ≡ n)
same_place i n h = elim (cases_lt i n) [ inl lt ↦ inl lt | inr ge ↦ inr (omega (arith, h, ge)) ]

taken_cases : {X : Type 0} (At : List X → X → Refusal → Type 0) (xs : List X) (y : X) (e : Refusal)
    → Along At (xs ++ y ∷ []) e → Along At xs e ⊎ At xs y e
taken_cases At xs y e (i, x, g, a) =
    let h : i < length (xs ++ y ∷ []) = slice_get_within (xs ++ y ∷ []) i x g in
    elim (same_place i (length xs) (omega (arith, h, length_push xs y))) [
      | inl lt ↦ inl (
        i,
        x,
        slice_get-get_or xs i x lt ∙ ap (λ z. Some z) (sym (get_or_append_left xs (y ∷ []) x i lt)
            ∙ get_or_from_slice_get (xs ++ y ∷ []) i x x g),
        subst (λ zs. At zs x e) (take-append-le i xs (y ∷ []) (omega (arith, lt))) a,
      )
      | inr is ↦
          let same : y ≡ x = same_Some y x (sym (get_last xs y) ∙ ap (slice_get (xs ++ y ∷ [])) (sym is) ∙ g) in
          inr (subst (λ z. At xs z e) (sym same)
          (subst (λ zs. At zs x e) (ap (λ n. take n (xs ++ y ∷ [])) is ∙ take_at xs (y ∷ []) (length xs) refl) a))
    ]

-- no element
pub along_none : {X : Type 0} (At : List X → X → Refusal → Type 0) (xs : List X) (a : Option Refusal)
    → Collects (Along At (take 0 xs)) a a
along_none At xs a = collects_none (Along At (take 0 xs)) a (λ e (i, x, g, w). none-some x g)

-- one element more
pub along_more : {X : Type 0} (At : List X → X → Refusal → Type 0) (xs : List X) (i : ℕ) (d : X)
    (a b c : Option Refusal)
    → i < length xs → Collects (Along At (take i xs)) a b → Collects (At (take i xs) (get_or xs i d)) b c
    → Collects (Along At (take (i + 1) xs)) a c
along_more At xs i d a b c h k l =
    subst (λ zs. Collects (Along At zs) a c) (sym (take_more xs i d h))
    (collects_both (Along At (take i xs)) (At (take i xs) (get_or xs i d)) (Along At (take i xs
    ++ get_or xs i d ∷ [])) a b c
    (taken_left At (take i xs) (get_or xs i d)) (taken_last At (take i xs) (get_or xs i d))
    (taken_cases At (take i xs) (get_or xs i d)) k l)

-- all of them
pub along_all : {X : Type 0} (At : List X → X → Refusal → Type 0) (xs : List X) (i : ℕ) (a b : Option Refusal)
    → length xs ≤ i → Collects (Along At (take i xs)) a b → Collects (Along At xs) a b
along_all At xs i a b h k = subst (λ zs. Collects (Along At zs) a b) (take_all i xs h) k

-- one element more of what another list says
pub along_next : {X Y : Type 0} (f : Y → X) (At : List X → X → Refusal → Type 0) (ys : List Y) (i : ℕ) (d : Y)
    (a b c : Option Refusal) → i < length ys → Collects (Along At (take i (map f ys))) a b
    → Collects (At (take i (map f ys)) (f (get_or ys i d))) b c → Collects (Along At (take (i + 1) (map f ys))) a c
along_next f At ys i d a b c h k l =
    along_more At (map f ys) i (f d) a b c (omega (arith, h, length-map ys f)) k
    (subst (λ x. Collects (At (take i (map f ys)) x) b c) (sym (get_or-map f ys i d (f d) h)) l)

-- all of what another list says
pub along_end : {X Y : Type 0} (f : Y → X) (At : List X → X → Refusal → Type 0) (ys : List Y) (i : ℕ)
    (a b : Option Refusal) → length ys ≤ i → Collects (Along At (take i (map f ys))) a b
    → Collects (Along At (map f ys)) a b
along_end f At ys i a b h k = along_all At (map f ys) i a b (omega (arith, h, length-map ys f)) k
