-- Whom a call may wake or move, as sets of those that sleep there.
use Rattle.std.proofs.Common.{◌≡◌, ◌<◌, ◌≤◌, ◌∙◌, ℕ, Bool, true, false, cond, List, [], ◌∷◌, Option, Some}
use Rattle.std.proofs.Common.{inl, inr, refl, sym, ap, arith, length, filter, Contains, eqb}
use Rattle.std.specs.Prelude.{◌⊎◌, if◌then◌else◌, nat_le, ◌&&◌}
use Rattle.std.specs.Cmp.{IsEquivalence}
use Rattle.std.specs.List.{IsDistinct, AllByRecursion}
use Rattle.std.proofs.Math.Path.{fun_ext}
use Rattle.std.proofs.lemmas.Bool.{cases_lt, eq-eqb, eqb-true}
use Rattle.std.proofs.lemmas.Bool.Decides.{nat_tests}
use Rattle.std.proofs.lemmas.Map.Made.{length-le_from_is_member, length-from_same_keys}
use Rattle.std.proofs.lemmas.Map.Views.{any-filter_same}
use Rattle.buckets.specs.Places.{names, with_place}
use Rattle.futexcalls.specs.FutexCalls.{IsChoice}
use Rattle.image_states.specs.Choosing.{chosen_of, AreChosen, AreSleepers, HasEachSet}
use Rattle.image_states.specs.Packed.{asleep_at, place_of}

-- numbers are equal or not
pub number_laws : IsEquivalence eqb
number_laws = record {
  refl = λ x. eq-eqb x x refl;
  symm = λ x y. both x y (eqb x y) refl (eqb y x) refl;
  congr = λ x y z e. ap (λ w. eqb w z) (eqb-true x y e);
}
  where
    both : (x y : ℕ) (b : Bool) → eqb x y ≡ b → (c : Bool) → eqb y x ≡ c → eqb x y ≡ eqb y x
    both x y true e c f =
        let same : x ≡ y = eqb-true x y e in ap (λ w. eqb w y) same ∙ ap (λ w. eqb y w) (sym same)
    both x y false e true f =
        let same : y ≡ x = eqb-true y x f in ap (λ w. eqb w y) (sym same) ∙ ap (λ w. eqb y w) same
    both x y false e false f = e ∙ sym f

distinct_filter : (test : ℕ → Bool) (xs : List ℕ) → IsDistinct eqb xs → IsDistinct eqb (filter test xs)
unfolding IsDistinct
distinct_filter test [] h = tt
distinct_filter test (x ∷ xs) h = at (test x) (some xs h.0) (distinct_filter test xs h.1)
  where
    some : (ys : List ℕ) → AllByRecursion (λ y. eqb x y ≡ false) ys → AllByRecursion (λ y. eqb x y ≡ false) (filter test ys)
    some [] a = tt
    some (y ∷ ys) a = pick (test y) a.0 (some ys a.1)
      where
        pick : (b : Bool) → eqb x y ≡ false → AllByRecursion (λ z. eqb x z ≡ false) (filter test ys)
            → AllByRecursion (λ z. eqb x z ≡ false) (cond b (y ∷ filter test ys) (filter test ys))
        pick true one rest = (one, rest)
        pick false one rest = rest

    at : (b : Bool) → AllByRecursion (λ y. eqb x y ≡ false) (filter test xs) → IsDistinct eqb (filter test xs)
        → IsDistinct eqb (cond b (x ∷ filter test xs) (filter test xs))
    at true front rest = (front, rest)
    at false front rest = rest

-- so many are chosen of those that sleep there
module _ (places : List ℕ) (place a n : ℕ) (sleepers woken : List ℕ) (are : AreSleepers places place sleepers)
    (at : place_of place ≡ Some a) (choice : IsChoice (asleep_at places) a n woken) where
  sleeps : (t : ℕ) → names woken t ≡ true → names sleepers t ≡ true
  sleeps t h = are.all t (choice.slept t h ∙ sym at)

  no_more : length woken ≤ length sleepers
  no_more = length-le_from_is_member number_laws woken sleepers choice.distinct sleeps

  no_fewer : length woken < n → length sleepers ≤ length woken
  no_fewer less = length-le_from_is_member number_laws sleepers woken are.distinct
      (λ t h. choice.all less t (are.sleep t h ∙ at))

  full : (length woken < n) ⊎ (n ≤ length woken) → n ≤ length sleepers → length woken ≡ n
  full (inl less) fits =
      let more : length sleepers ≤ length woken = no_fewer less in absurd (omega (arith, more, less, fits))
  full (inr most) fits = let few : length woken ≤ n = choice.few in omega (arith, most, few)

  size_is : (b : Bool) → nat_le n (length sleepers) ≡ b → length woken ≡ (if b then n else length sleepers)
  size_is true e = full (cases_lt (length woken) n) (grind (arith, nat_tests, e))
  size_is false e =
      let less : length sleepers < n = grind (arith, nat_tests, e) in
      let few : length woken ≤ length sleepers = no_more in
      let more : length sleepers ≤ length woken = no_fewer (omega (arith, less, few)) in
      omega (arith, few, more)

  pub are_chosen : AreChosen places place (chosen_of n (length sleepers)) woken
  are_chosen = record {
    distinct = choice.distinct;
    sleep = λ t h. choice.slept t h ∙ sym at;
    size = size_is (nat_le n (length sleepers)) refl;
  }

-- each such choice is one of the lists that have each set, but for the order
module _ (places : List ℕ) (place size : ℕ) (sleepers chosen : List ℕ) (are : AreSleepers places place sleepers)
    (chose : AreChosen places place size chosen) where
  abbrev pub listed : List ℕ
  listed = filter (names chosen) sleepers

  alike : (t k : ℕ) → eqb t k ≡ true → names chosen k ≡ names chosen t
  alike t k e = ap (names chosen) (sym (eqb-true t k e))

  same_names : (t : ℕ) → names listed t ≡ names chosen t
  same_names t = any-filter_same (eqb t) (names chosen) (names chosen t) (alike t) sleepers
      ∙ by_test (names chosen t) refl
    where
      by_test : (b : Bool) → names chosen t ≡ b → (b && names sleepers t) ≡ b
      by_test true e = are.all t (chose.sleep t e)
      by_test false e = refl

  listed_size : length listed ≡ size
  listed_size = length-from_same_keys number_laws listed chosen (distinct_filter (names chosen) sleepers are.distinct)
      chose.distinct same_names ∙ chose.size

  pub placed_same : (asleep : ℕ → Option ℕ) (to : Option ℕ) → with_place asleep listed to ≡ with_place asleep chosen to
  placed_same asleep to = fun_ext (λ t. ap (λ b. if b then to else asleep t) (same_names t))

  pub is_listed : (lists : List (List ℕ)) → HasEachSet sleepers lists
      → Contains lists listed × (length listed ≡ size)
  is_listed lists each = (each (names chosen), listed_size)
