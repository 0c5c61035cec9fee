-- A map that is changed at one key, in its place.
use Rattle.std.proofs.Common.{◌≡◌, ℕ, zero, suc, Bool, true, false, cond, List, [], ◌∷◌, set, Option, Some, None, sym, ap, ◌∙◌, refl}
use Rattle.std.proofs.Common.{◌<◌, length, get_or, arith, subst}
use Rattle.std.proofs.lemmas.Map.{lookup-insert, lookup-none, lookup-remove_entry}
use Rattle.std.proofs.lemmas.Map.Keys.{IsDistinct-from_sorted}
use Rattle.std.specs.BTreeMap.{is_at}
use Rattle.std.specs.Cmp.{IsTotalOrder, eq_by_cmp_equiv}
use Rattle.std.specs.declared.cmp.Ordering.{Ordering}
use Rattle.std.specs.declared.cmp.Ordering.TheVariants.{Less, Equal, Greater}
use Rattle.std.specs.List.{AllByRecursion, insert, remove}
use Rattle.std.specs.List.Sorted.{IsStrictlySortedBy}
use Rattle.std.specs.Map.{keys_of, lookup, remove_entry}
use Rattle.std.specs.Ordering.{is_eq, ordering_reverse}
use Rattle.sorted_map.specs.Maps.{IsFoundAt, IsGapAt, IsOrdered, Updates, with_value_at}
use Rattle.sorted_map.proofs.Finding.{none_in_gap}

-- the first is asked before the second, or after it
swapped : {A : Type 0} (a b : Bool) (x w y : A) → (a ≡ true → b ≡ false) → cond a x (cond b w y) ≡ cond b w (cond a x y)
swapped true true x w y apart = absurd (let e = apart refl in cc)
swapped true false x w y apart = refl
swapped false true x w y apart = refl
swapped false false x w y apart = refl

same_choice : {A : Type 0} (a b : Bool) (x w y : A) → a ≡ b → cond a w y ≡ cond b w (cond a x y)
same_choice true true x w y e = refl
same_choice true false x w y e = absurd (cc)
same_choice false true x w y e = absurd (cc)
same_choice false false x w y e = refl

all : {K : Type 0} {P Q : K → Type 0} → ((y : K) → P y → Q y) → (ks : List K) → AllByRecursion P ks → AllByRecursion Q ks
all more [] a = tt
all more (k ∷ ks) a = (more k a.0, all more ks a.1)

module _ {K X : Type 0} where
  keys_stay : (w : X) (es : List (K × X)) (i : ℕ) → keys_of (with_value_at es i w) ≡ keys_of es
  keys_stay w [] i = refl
  keys_stay w (e ∷ es) zero = refl
  keys_stay w (e ∷ es) (suc i) = ap (λ ks. e.0 ∷ ks) (keys_stay w es i)

  -- the keys still rise where one gets another value
  pub stays_ordered : (cmp : K → K → Ordering) (w : X) (es : List (K × X)) (i : ℕ) → IsOrdered cmp es
      → IsOrdered cmp (with_value_at es i w)
  stays_ordered cmp w es i ordered = subst (IsStrictlySortedBy cmp) (sym (keys_stay w es i)) ordered

  -- an entry's value is written in the entry's place
  pub value_written : (w : X) (es : List (K × X)) (i : ℕ) (e : K × X) → i < length es → e ≡ get_or es i e
      → set es i (e.0, w) ≡ with_value_at es i w
  value_written w [] i e within at = absurd (omega (arith, within))
  value_written w (d ∷ es) zero e within at = ap (λ (f : K × X). (f.0, w) ∷ es) at
  value_written w (d ∷ es) (suc i) e within at =
      ap (λ l. d ∷ l) (value_written w es i e (omega (arith, within)) at)

module _ {K : Type 0} {cmp : K → K → Ordering} (total : IsTotalOrder cmp) (k : K) where
  same_test : (x q : K) → cmp k x ≡ Equal → is_at (cmp q) x ≡ is_at (cmp k) q
  same_test x q e = (eq_by_cmp_equiv total).symm q x ∙ ap is_eq (sym (total.congr k x q e))

  other_test : (x q : K) → cmp k x ≡ Greater → is_at (cmp q) x ≡ true → is_at (cmp k) q ≡ false
  other_test x q e at = sym ((eq_by_cmp_equiv total).symm q k) ∙ (eq_by_cmp_equiv total).congr q x k at
      ∙ (eq_by_cmp_equiv total).symm x k ∙ ap is_eq e

  one_class : (x y : K) → is_at (cmp k) x ≡ true → is_at (cmp k) y ≡ is_eq (cmp x y)
  one_class x y at = (eq_by_cmp_equiv total).congr k x y at

module _ {K X : Type 0} {cmp : K → K → Ordering} (total : IsTotalOrder cmp) (k : K) where
  -- another value for a key that is there
  pub value_updates : (w : X) (es : List (K × X)) (i : ℕ) → IsFoundAt cmp k es i
      → Updates cmp es (with_value_at es i w) k (Some w)
  value_updates w [] i found q = absurd found
  value_updates w (e ∷ es) zero found q =
      same_choice (is_at (cmp q) e.0) (is_at (cmp k) q) (Some e.1) (Some w) (lookup (is_at (cmp q)) es)
      (same_test total k e.0 q found)
  value_updates w (e ∷ es) (suc i) found q =
      ap (cond (is_at (cmp q) e.0) (Some e.1)) (value_updates w es i found.1 q)
      ∙ swapped (is_at (cmp q) e.0) (is_at (cmp k) q) (Some e.1) (Some w) (lookup (is_at (cmp q)) es)
      (other_test total k e.0 q found.0)

  -- a new entry in its gap
  all_insert : (P : K → Type 0) (v : X) (es : List (K × X)) (i : ℕ) → P k → AllByRecursion P (keys_of es)
      → AllByRecursion P (keys_of (insert es i (k, v)))
  all_insert P v es zero p a = (p, a)
  all_insert P v [] (suc i) p a = (p, tt)
  all_insert P v (e ∷ es) (suc i) p a = (a.0, all_insert P v es i p a.1)

  pub insert_ordered : (v : X) (es : List (K × X)) (i : ℕ) → IsOrdered cmp es → IsGapAt cmp k es i
      → IsOrdered cmp (insert es i (k, v))
  unfolding IsStrictlySortedBy
  insert_ordered v [] zero ordered gap = (tt, tt)
  insert_ordered v [] (suc i) ordered gap = (tt, tt)
  insert_ordered v (e ∷ es) zero ordered gap =
      ((gap, all (λ y less. total.trans k e.0 y gap less) (keys_of es) ordered.0), ordered)
  insert_ordered v (e ∷ es) (suc i) ordered gap = (
    all_insert (λ y. cmp e.0 y ≡ Less) v es i (total.antisymm e.0 k ∙ ap ordering_reverse gap.0) ordered.0,
    insert_ordered v es i ordered.1 gap.1,
  )

  pub insert_updates : (v : X) (es : List (K × X)) (i : ℕ) → IsOrdered cmp es → IsGapAt cmp k es i
      → Updates cmp es (insert es i (k, v)) k (Some v)
  insert_updates v es i ordered gap q =
      lookup-insert (eq_by_cmp_equiv total) k v q es i (none_in_gap total k es i ordered gap)

  -- an entry that is taken out
  removes : (es : List (K × X)) (i : ℕ) → IsFoundAt cmp k es i → remove es i ≡ remove_entry (is_at (cmp k)) es
  removes [] i found = absurd found
  removes (e ∷ es) zero found = ap (λ b. cond b es (e ∷ remove_entry (is_at (cmp k)) es)) (sym (ap is_eq found))
  removes (e ∷ es) (suc i) found =
      ap (λ l. e ∷ l) (removes es i found.1)
      ∙ ap (λ b. cond b es (e ∷ remove_entry (is_at (cmp k)) es)) (sym (ap is_eq found.0))

  all_remove : (P : K → Type 0) (es : List (K × X)) (i : ℕ) → AllByRecursion P (keys_of es)
      → AllByRecursion P (keys_of (remove es i))
  all_remove P [] zero a = tt
  all_remove P [] (suc i) a = tt
  all_remove P (e ∷ es) zero a = a.1
  all_remove P (e ∷ es) (suc i) a = (a.0, all_remove P es i a.1)

  pub remove_ordered : (es : List (K × X)) (i : ℕ) → IsOrdered cmp es → IsOrdered cmp (remove es i)
  unfolding IsStrictlySortedBy
  remove_ordered [] zero ordered = tt
  remove_ordered [] (suc i) ordered = tt
  remove_ordered (e ∷ es) zero ordered = ordered.1
  remove_ordered (e ∷ es) (suc i) ordered =
      (all_remove (λ y. cmp e.0 y ≡ Less) es i ordered.0, remove_ordered es i ordered.1)

  pub remove_updates : (es : List (K × X)) (i : ℕ) → IsOrdered cmp es → IsFoundAt cmp k es i
      → Updates cmp es (remove es i) k None
  remove_updates es i ordered found q =
      ap (lookup (is_at (cmp q))) (removes es i found)
      ∙ lookup-remove_entry (eq_by_cmp_equiv total) (is_at (cmp k)) (one_class total k) q es
      (IsDistinct-from_sorted cmp (keys_of es) ordered)

  -- nothing to take out
  none_or : (b : Bool) (w : Option X) → (b ≡ true → w ≡ None) → w ≡ cond b None w
  none_or true w none = none refl
  none_or false w none = refl

  pub nothing_removed : (es : List (K × X)) (i : ℕ) → IsOrdered cmp es → IsGapAt cmp k es i → Updates cmp es es k None
  nothing_removed es i ordered gap q =
      none_or (is_at (cmp k) q) (lookup (is_at (cmp q)) es)
      (λ at. ap (λ f. lookup f es) (λ j x. sym ((eq_by_cmp_equiv total).congr k q x at) j)
      ∙ lookup-none (is_at (cmp k)) es (none_in_gap total k es i ordered gap))
