-- What two maps have in common, and which entry has the value at a key.
use Rattle.std.proofs.Common.{◌≡◌, ◌↔◌, ◌&&◌, Bool, true, false, List, [], ◌∷◌, Some, Contains, refl}
use Rattle.std.proofs.lemmas.Map.Keys.{IsDistinct-from_sorted}
use Rattle.std.proofs.lemmas.Map.Lookups.{CmpEqualImpliesEq}
use Rattle.std.proofs.lemmas.Map.Views.{Contains-from_lookup, lookup-from_Contains, tells_apart}
use Rattle.std.specs.Cmp.{IsTotalOrder, eq_by_cmp_equiv}
use Rattle.std.specs.Cmp.Lexicographic.{pointwise}
use Rattle.std.specs.declared.cmp.Ordering.{Ordering}
use Rattle.std.specs.Map.{keys_of}
use Rattle.sorted_map.specs.Maps.{get, IsOrdered}

-- at an order that tells keys apart
pub get_iff : {K X : Type 0} {cmp : K → K → Ordering} → IsTotalOrder cmp → CmpEqualImpliesEq cmp → (es : List (K × X))
    → IsOrdered cmp es → (k : K) (v : X) → (get cmp es k ≡ Some v) ↔ Contains es (k, v)
get_iff {cmp = cmp} total exact es ordered k v = (
  Contains-from_lookup (tells_apart exact) k v es,
  lookup-from_Contains (eq_by_cmp_equiv total) k v es (IsDistinct-from_sorted cmp (keys_of es) ordered),
)

and_true : (a b : Bool) → (a && b) ≡ true → (a ≡ true) × (b ≡ true)
and_true true b e = (refl, e)
and_true false b e = absurd (cc)

-- lists whose elements are the same by a test are the same
same_lists : {A : Type 0} (E : A → A → Bool) → ((a b : A) → E a b ≡ true → a ≡ b) → (xs ys : List A)
    → pointwise E xs ys ≡ true → xs ≡ ys
same_lists E exact [] [] e = refl
same_lists E exact [] (y ∷ ys) e = absurd (cc)
same_lists E exact (x ∷ xs) [] e = absurd (cc)
same_lists E exact (x ∷ xs) (y ∷ ys) e =
    let both = and_true (E x y) (pointwise E xs ys) e in
    let first = exact x y both.0 in
    let rest = same_lists E exact xs ys both.1 in
    λ i. first i ∷ rest i

-- maps that are the same by tests of their keys and values are the same
pub same_entries : {K X : Type 0} {E : K → K → Bool} {F : X → X → Bool} → ((a b : K) → E a b ≡ true → a ≡ b)
    → ((a b : X) → F a b ≡ true → a ≡ b) → (es fs : List (K × X))
    → pointwise (λ (p q : K × X). E p.0 q.0 && F p.1 q.1) es fs ≡ true → es ≡ fs
same_entries {K} {X} {E} {F} keys values es fs e =
    same_lists (λ (p q : K × X). E p.0 q.0 && F p.1 q.1) each es fs e
  where
    each : (p q : K × X) → (E p.0 q.0 && F p.1 q.1) ≡ true → p ≡ q
    each p q h =
        let both = and_true (E p.0 q.0) (F p.1 q.1) h in
        let key = keys p.0 q.0 both.0 in
        let value = values p.1 q.1 both.1 in
        λ i. (key i, value i)
