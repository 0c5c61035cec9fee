-- A map as its keys with their values, the keys rising.
use Rattle.std.specs.Prelude.{◌≡◌, ℕ, zero, suc, List, [], ◌∷◌, Option, cond}
use Rattle.std.specs.declared.cmp.Ordering.{Ordering}
use Rattle.std.specs.declared.cmp.Ordering.TheVariants.{Less, Equal, Greater}
use Rattle.std.specs.BTreeMap.{is_at}
use Rattle.std.specs.List.Sorted.{IsStrictlySortedBy}
use Rattle.std.specs.Map.{keys_of, lookup}

module _ {K X : Type 0} (cmp : K → K → Ordering) where
  -- the keys rise
  abbrev pub IsOrdered : List (K × X) → Type 0
  IsOrdered es = IsStrictlySortedBy cmp (keys_of es)

  -- the map as a function: the value at a key
  abbrev pub get : List (K × X) → K → Option X
  get es k = lookup (is_at (cmp k)) es

module _ {K X : Type 0} where
  -- the map with this value at a place
  abbrev pub with_value_at : List (K × X) → ℕ → X → List (K × X)
  with_value_at [] i w = []
  with_value_at (e ∷ es) zero w = (e.0, w) ∷ es
  with_value_at (e ∷ es) (suc i) w = e ∷ with_value_at es i w

module _ {K X : Type 0} (cmp : K → K → Ordering) where
  -- the second map has this at the key, and at every other key what the first has
  abbrev pub Updates : List (K × X) → List (K × X) → K → Option X → Type 0
  Updates es fs k w = (q : K) → get cmp fs q ≡ cond (is_at (cmp k) q) w (get cmp es q)

  module _ (k : K) where
    -- the key is at this place, and the keys before are below it
    abbrev pub IsFoundAt : List (K × X) → ℕ → Type 0
    IsFoundAt [] i = ⊥
    IsFoundAt (e ∷ es) zero = cmp k e.0 ≡ Equal
    IsFoundAt (e ∷ es) (suc i) = (cmp k e.0 ≡ Greater) × IsFoundAt es i

    -- the key would go to this place: the keys before are below it, and the one there is above it
    abbrev pub IsGapAt : List (K × X) → ℕ → Type 0
    IsGapAt [] i = i ≡ 0
    IsGapAt (e ∷ es) zero = cmp k e.0 ≡ Less
    IsGapAt (e ∷ es) (suc i) = (cmp k e.0 ≡ Greater) × IsGapAt es i
