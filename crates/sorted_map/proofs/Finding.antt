-- Where a key is among keys that rise, or where it would go.
use Rattle.std.proofs.Common.{◌≡◌, ◌<◌, ◌≤◌, ℕ, zero, suc, List, [], ◌∷◌, length, get_or, Some, Result, Ok, Err}
use Rattle.std.proofs.Common.{MatchResult, slice_get, refl, sym, ap, ◌∙◌, arith}
use Rattle.std.proofs.Common.{inl, inr}
use Rattle.std.proofs.Math.ListN.{get_or-map}
use Rattle.std.proofs.lemmas.Bool.{cases_eq}
use Rattle.std.proofs.lemmas.Cmp.{alike_right}
use Rattle.std.proofs.lemmas.Map.{NonePasses}
use Rattle.std.proofs.lemmas.Map.Entries.{length-keys_of, lookup_head, lookup_tail, none_below_head}
use Rattle.std.proofs.lemmas.Map.Keys.{sorted_head, sorted_tail, Less-from_sorted}
use Rattle.std.specs.BTreeMap.{is_at}
use Rattle.std.specs.Cmp.{IsTotalOrder}
use Rattle.std.specs.declared.cmp.Ordering.{Ordering}
use Rattle.std.specs.declared.cmp.Ordering.TheVariants.{Less, Equal, Greater}
use Rattle.std.specs.List.{AllByRecursion, AllWithin, HoldsAt}
use Rattle.std.specs.List.Sorted.{IsBinarySearchResult, IsNonDecreasingBy, IsSearchInRange}
use Rattle.std.specs.Map.{keys_of, lookup, values_of}
use Rattle.std.specs.Ordering.{is_eq, ordering_index, ordering_reverse}
use Rattle.sorted_map.specs.Maps.{IsFoundAt, IsGapAt, IsOrdered}

module _ {K : Type 0} {cmp : K → K → Ordering} (total : IsTotalOrder cmp) (k : K) where
  back : (x : K) (o : Ordering) → cmp x k ≡ o → cmp k x ≡ ordering_reverse o
  back x o e = total.antisymm k x ∙ ap ordering_reverse e

  -- what compares as less is not above
  rises : (x y : K) → cmp x y ≡ Less → ordering_index (cmp x k) ≤ ordering_index (cmp y k)
  rises x y less = above (cmp y k) refl
    where
      above : (o : Ordering) → cmp y k ≡ o → ordering_index (cmp x k) ≤ ordering_index o
      above Less e = omega (arith, ap ordering_index (total.trans x y k less e))
      above Equal e = omega (arith, ap ordering_index (sym (alike_right total y k x e) ∙ less))
      above Greater e = most (cmp x k)
        where
          most : (o : Ordering) → ordering_index o ≤ 2
          most Less = omega arith
          most Equal = omega arith
          most Greater = omega arith

module _ {K X : Type 0} {cmp : K → K → Ordering} (total : IsTotalOrder cmp) (k : K) where
  -- a key below all keys of a list is below one that is found there
  below_found : (x : K) (es : List (K × X)) (i : ℕ) → AllByRecursion (λ y. cmp x y ≡ Less) (keys_of es)
      → IsFoundAt cmp k es i → cmp k x ≡ Greater
  below_found x [] i less found = absurd found
  below_found x (e ∷ es) zero less found =
      total.congr k e.0 x found ∙ total.antisymm e.0 x ∙ ap ordering_reverse less.0
  below_found x (e ∷ es) (suc i) less found = below_found x es i less.1 found.1

  -- the place of an equal key is the first such place
  found_from : (es : List (K × X)) (i : ℕ) → IsOrdered cmp es → i < length es
      → HoldsAt (λ (e : K × X). cmp e.0 k ≡ Equal) es i → IsFoundAt cmp k es i
  found_from [] i ordered within at = absurd (omega (arith, within))
  found_from (e ∷ es) zero ordered within at = back total k e.0 Equal (at e)
  found_from (e ∷ es) (suc i) ordered within at =
      let rest = found_from es i (sorted_tail cmp e.0 (keys_of es) ordered) (omega (arith, within)) at in
      (below_found e.0 es i (sorted_head cmp e.0 (keys_of es) ordered) rest, rest)

  -- between the keys below and those above is the gap
  gap_from : (es : List (K × X)) (i : ℕ) → i ≤ length es
      → AllWithin (λ (e : K × X). cmp e.0 k ≡ Less) es 0 i
      → AllWithin (λ (e : K × X). cmp e.0 k ≡ Greater) es i (length es) → IsGapAt cmp k es i
  gap_from [] i within less more = omega (arith, within)
  gap_from (e ∷ es) zero within less more = back total k e.0 Greater (more 0 e (omega arith) (omega arith))
  gap_from (e ∷ es) (suc i) within less more = (
    back total k e.0 Less (less 0 e (omega arith) (omega arith)),
    gap_from es i (omega (arith, within)) (λ j d l m. less (suc j) d (omega arith) (omega (arith, m)))
        (λ j d l m. more (suc j) d (omega (arith, l)) (omega (arith, m))),
  )

  comparisons_rise : (es : List (K × X)) → IsOrdered cmp es
      → IsNonDecreasingBy (λ (e : K × X). ordering_index (cmp e.0 k)) es
  comparisons_rise es ordered i j d le within = elim (cases_eq i j) [
    | inl same ↦ let n : ℕ → ℕ = λ l. ordering_index (cmp (get_or es l d).0 k) in omega (arith, ap n same)
    | inr other ↦ rises total k (get_or es i d).0 (get_or es j d).0
        (let key = λ (e : K × X). e.0 in
        sym (λ l. cmp (get_or-map key es i d l) (get_or-map key es j d l))
        ∙ Less-from_sorted cmp (keys_of es) i j d.0 ordered (omega (arith, other)) (omega (arith, within, length-keys_of es)))
  ]

  -- what a binary search answers
  pub searched : (es : List (K × X)) (r : Result ℕ ℕ) → IsOrdered cmp es → IsSearchInRange r (length es)
      → IsBinarySearchResult (λ (e : K × X). cmp e.0 k) es r → MatchResult r (IsFoundAt cmp k es) (IsGapAt cmp k es)
  searched es (Ok i) ordered within at = found_from es i ordered within at
  searched es (Err i) ordered within parted =
      let parts = parted (comparisons_rise es ordered) in gap_from es i within parts.0 parts.1

  pub found_within : (es : List (K × X)) (i : ℕ) → IsFoundAt cmp k es i → i < length es
  found_within [] i found = absurd found
  found_within (e ∷ es) zero found = omega arith
  found_within (e ∷ es) (suc i) found = omega (arith, found_within es i found.1)

  pub gap_within : (es : List (K × X)) (i : ℕ) → IsGapAt cmp k es i → i ≤ length es
  gap_within [] i gap = omega (arith, gap)
  gap_within (e ∷ es) zero gap = omega arith
  gap_within (e ∷ es) (suc i) gap = omega (arith, gap_within es i gap.1)

  -- the value of a key that is there
  pub found_value : (es : List (K × X)) (i : ℕ) → IsFoundAt cmp k es i
      → lookup (is_at (cmp k)) es ≡ slice_get (values_of es) i
  found_value [] i found = absurd found
  found_value (e ∷ es) zero found = lookup_head (is_at (cmp k)) e es (ap is_eq found)
  found_value (e ∷ es) (suc i) found =
      lookup_tail (is_at (cmp k)) e es (ap is_eq found.0) ∙ found_value es i found.1

  -- no key is equal to one that is not there
  pub none_in_gap : (es : List (K × X)) (i : ℕ) → IsOrdered cmp es → IsGapAt cmp k es i → NonePasses (is_at (cmp k)) es
  none_in_gap [] i ordered gap = tt
  none_in_gap (e ∷ es) zero ordered gap = none_below_head total k e es ordered gap
  none_in_gap (e ∷ es) (suc i) ordered gap =
      (ap is_eq gap.0, none_in_gap es i (sorted_tail cmp e.0 (keys_of es) ordered) gap.1)

module _ {K X : Type 0} where
  -- the value of an entry
  pub value_at : (es : List (K × X)) (i : ℕ) (e : K × X) → i < length es → e ≡ get_or es i e
      → slice_get (values_of es) i ≡ Some e.1
  value_at [] i e within at = absurd (omega (arith, within))
  value_at (d ∷ es) zero e within at = ap (λ (f : K × X). Some f.1) (sym at)
  value_at (d ∷ es) (suc i) e within at = value_at es i e (omega (arith, within)) at
