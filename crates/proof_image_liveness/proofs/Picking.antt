-- Some choice of sleepers, where only threads before a number sleep.
use Rattle.std.proofs.Common.{◌≡◌, ◌<◌, ◌≤◌, ◌∙◌, ℕ, zero, suc, Bool, true, false, List, [], ◌∷◌, Option, Some, None, ◌==◌}
use Rattle.std.proofs.Common.{inl, inr, refl, sym, ap, arith, length, eqb}
use Rattle.std.specs.Prelude.{if◌then◌else◌, nat_eq}
use Rattle.std.specs.List.{IsDistinct, AllByRecursion}
use Rattle.std.proofs.lemmas.Bool.{eqb-true, eq-eqb, cases_eq, or_cases, or_left, or_right}
use Rattle.buckets.specs.Places.{names, with_place}
use Rattle.futexcalls.specs.FutexCalls.{IsChoice, Wakes}

-- whether a thread sleeps at an address
abbrev pub is_at : Option ℕ → ℕ → Bool
is_at None a = false
is_at (Some b) a = b == a

abbrev pub pick : (ℕ → Option ℕ) → ℕ → ℕ → ℕ → List ℕ
pick z a zero n = []
pick z a (suc k) zero = []
pick z a (suc k) (suc n) = if is_at (z k) a then k ∷ pick z a k n else pick z a k (suc n)

at_is : (o : Option ℕ) (a : ℕ) → is_at o a ≡ true → o ≡ Some a
at_is None a h = absurd cc
at_is (Some b) a h = ap (λ c. Some c) (eqb-true b a h)

is_at_so : (o : Option ℕ) (a : ℕ) → o ≡ Some a → is_at o a ≡ true
is_at_so None a h = absurd cc
is_at_so (Some b) a h = let e : b ≡ a = cc in eq-eqb b a e

apart : (i j : ℕ) → j < i → eqb i j ≡ false
apart i j less = by_test (eqb i j) refl
  where
    by_test : (b : Bool) → eqb i j ≡ b → eqb i j ≡ false
    by_test true q = absurd (let e : i ≡ j = eqb-true i j q in omega (arith, less, e))
    by_test false q = q

module _ (z : ℕ → Option ℕ) (a : ℕ) where
  picked : (k n t : ℕ) → names (pick z a k n) t ≡ true → (t < k) × (z t ≡ Some a)
  picked zero n t h = absurd (let no' : false ≡ true = h in cc)
  picked (suc k) zero t h = absurd (let no' : false ≡ true = h in cc)
  picked (suc k) (suc n) t h = by_test (λ m r. picked k m t r) (is_at (z k) a) refl h
    where
      by_test : ((m : ℕ) → names (pick z a k m) t ≡ true → (t < k) × (z t ≡ Some a)) → (b : Bool) → is_at (z k) a ≡ b → names (if b then k ∷ pick z a k n else pick z a k (suc n)) t ≡ true
          → (t < suc k) × (z t ≡ Some a)
      by_test again true q h = elim (or_cases (t == k) (names (pick z a k n) t) h) [
        | inl e ↦ let same : t ≡ k = eqb-true t k e in (omega (arith, same), ap z same ∙ at_is (z k) a q)
        | inr r ↦ let i = again n r in let less : t < k = i.0 in (omega (arith, less), i.1)
      ]
      by_test again false q h = let i = again (suc n) h in let less : t < k = i.0 in (omega (arith, less), i.1)

  few_picked : (k n : ℕ) → length (pick z a k n) ≤ n
  few_picked zero n = omega arith
  few_picked (suc k) zero = omega arith
  few_picked (suc k) (suc n) = by_test (few_picked k n) (few_picked k (suc n)) (is_at (z k) a)
    where
      by_test : length (pick z a k n) ≤ n → length (pick z a k (suc n)) ≤ suc n → (b : Bool) → length (if b then k ∷ pick z a k n else pick z a k (suc n)) ≤ suc n
      by_test few more true = omega (arith, few)
      by_test few more false = more

  all_picked : (k n t : ℕ) → length (pick z a k n) < n → t < k → z t ≡ Some a → names (pick z a k n) t ≡ true
  all_picked zero n t less low h = absurd (omega (arith, low))
  all_picked (suc k) zero t less low h = absurd (omega (arith, less))
  all_picked (suc k) (suc n) t less low h = by_test (λ m l b. all_picked k m t l b h) (is_at (z k) a) refl less
    where
      by_test : ((m : ℕ) → length (pick z a k m) < m → t < k → names (pick z a k m) t ≡ true) → (b : Bool) → is_at (z k) a ≡ b → length (if b then k ∷ pick z a k n else pick z a k (suc n)) < suc n
          → names (if b then k ∷ pick z a k n else pick z a k (suc n)) t ≡ true
      by_test again true q more = elim (cases_eq t k) [
        | inl e ↦ or_left (t == k) (names (pick z a k n) t) (eq-eqb t k e)
        | inr ne ↦ or_right (t == k) (names (pick z a k n) t)
            (again n (omega (arith, more)) (omega (arith, low, ne)))
      ]
      by_test again false q more = elim (cases_eq t k) [
        | inl e ↦ absurd (let no' : false ≡ true = sym q ∙ ap (λ j. is_at (z j) a) (sym e) ∙ is_at_so (z t) a h in cc)
        | inr ne ↦ again (suc n) more (omega (arith, low, ne))
      ]

  below_all : (k n i : ℕ) → k ≤ i → AllByRecursion (λ y. eqb i y ≡ false) (pick z a k n)
  unfolding IsDistinct
  below_all zero n i less = tt
  below_all (suc k) zero i less = tt
  below_all (suc k) (suc n) i less =
      by_test (below_all k n i (omega (arith, less))) (below_all k (suc n) i (omega (arith, less))) (is_at (z k) a)
    where
      by_test : AllByRecursion (λ y. eqb i y ≡ false) (pick z a k n)
          → AllByRecursion (λ y. eqb i y ≡ false) (pick z a k (suc n)) → (b : Bool) → AllByRecursion (λ y. eqb i y ≡ false) (if b then k ∷ pick z a k n else pick z a k (suc n))
      by_test rest more true = (apart i k (omega (arith, less)), rest)
      by_test rest more false = more

  distinct_picked : (k n : ℕ) → IsDistinct nat_eq (pick z a k n)
  unfolding IsDistinct
  distinct_picked zero n = tt
  distinct_picked (suc k) zero = tt
  distinct_picked (suc k) (suc n) = by_test (distinct_picked k n) (distinct_picked k (suc n)) (is_at (z k) a)
    where
      by_test : IsDistinct nat_eq (pick z a k n) → IsDistinct nat_eq (pick z a k (suc n)) → (b : Bool) → IsDistinct nat_eq (if b then k ∷ pick z a k n else pick z a k (suc n))
      by_test rest more true = (below_all k n k (omega arith), rest)
      by_test rest more false = more

  pub choose : (k n : ℕ) → ((u b : ℕ) → z u ≡ Some b → u < k) → IsChoice z a n (pick z a k n)
  choose k n few = record {
    distinct = distinct_picked k n;
    slept = λ t h. (picked k n t h).1;
    few = few_picked k n;
    all = λ less t h. all_picked k n t less (few t a h) h;
  }

  pub wakes_some : (k n : ℕ) → ((u b : ℕ) → z u ≡ Some b → u < k)
      → Wakes z a n (pick z a k n) (with_place z (pick z a k n) None)
  wakes_some k n few = record { choice = choose k n few; awake = refl }

-- who sleeps while some are awake slept before
pub few_left : (z : ℕ → Option ℕ) (k : ℕ) (woken : List ℕ) → ((u b : ℕ) → z u ≡ Some b → u < k) → (u b : ℕ)
    → with_place z woken None u ≡ Some b → u < k
few_left z k woken few u b h = by_test (names woken u) h
  where
    by_test : (q : Bool) → (if q then None else z u) ≡ Some b → u < k
    by_test true e = absurd cc
    by_test false e = few u b e
