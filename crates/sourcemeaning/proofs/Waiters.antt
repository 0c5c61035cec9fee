-- The processes that wait on a condition are those of a list.
use Rattle.std.proofs.Common.{◌≡◌, ◌≤◌, ◌+◌, eqb, ◌&&◌, ℕ, zero, suc, Bool, true, false, cond, List, [], ◌∷◌, filter, Option}
use Rattle.std.proofs.Common.{Some, None, Contains, refl, ap, sym, ◌∙◌, subst, nat_cmp, arith}
use Rattle.std.proofs.lemmas.Bool.Decides.{nat_tests}
use Rattle.std.proofs.lemmas.Grind.{common_steps}
use Rattle.std.proofs.lemmas.List.Elements.{All-contains, filter_passes}
use Rattle.std.proofs.lemmas.List.Kept.{IsStrictlyIncreasing-filter}
use Rattle.std.proofs.lemmas.Map.Views.{Contains-keys_from_lookup}
use Rattle.std.specs.BTreeMap.{is_at}
use Rattle.std.specs.Map.{keys_of}
use Rattle.std.specs.Prelude.{IsSome}
use Rattle.program.specs.declared.kinds.Member.{Member}
use Rattle.meaning.proofs.Rising.{numbers, numbers_all, numbers_rise}
use Rattle.source_table.specs.declared.table.Table.{Table as TableOf}
use Rattle.source_table.specs.Tables.{table_of, waits_in}
use Rattle.sourcemeaning.proofs.Moves.{HasWaiters}

abbrev is_on : Member → Option Member → Bool
is_on c None = false
is_on c (Some d) = eqb d.monitor c.monitor && eqb d.number c.number

on_it : (c : Member) (o : Option Member) → is_on c o ≡ true → o ≡ Some c
on_it c None e = cc
on_it c (Some d) e =
    let m : d.monitor ≡ c.monitor = grind (arith, nat_tests, e) in
    let n : d.number ≡ c.number = grind (arith, nat_tests, e) in
    λ i. Some (record { monitor = m i; number = n i })

it_is_on : (c : Member) → is_on c (Some c) ≡ true
it_is_on c = grind (arith, nat_tests)

exact : (x y : ℕ) → is_at (nat_cmp x) y ≡ true → x ≡ y
exact x y e = grind (arith, common_steps, e)

some_is : {A : Type 0} (o : Option A) (x : A) → o ≡ Some x → IsSome o
some_is o x e = subst IsSome (sym e) refl

here : (p : ℕ → Bool) (x q : ℕ) (xs : List ℕ) (b : Bool) → b ≡ p x → x ≡ q → p q ≡ true
    → Contains (cond b (x ∷ xs) xs) q
here p x q xs true e is passes = (0, omega arith, is)
here p x q xs false e is passes =
    absurd (let differ : false ≡ true = e ∙ ap p is ∙ passes in cc)

there : (x q : ℕ) (xs : List ℕ) (b : Bool) → Contains xs q → Contains (cond b (x ∷ xs) xs) q
there x q xs true (k, l, e) = (suc k, omega (arith, l), e)
there x q xs false h = h

-- what passes a test is kept
kept : (p : ℕ → Bool) (xs : List ℕ) (q : ℕ) → Contains xs q → p q ≡ true → Contains (filter p xs) q
kept p [] q (k, l, e) passes = absurd (omega (arith, l))
kept p (x ∷ xs) q (zero, l, e) passes = here p x q (filter p xs) (p x) refl e passes
kept p (x ∷ xs) q (suc k, l, e) passes = there x q (filter p xs) (p x) (kept p xs q (k, omega (arith, l), e) passes)

abbrev total : List ℕ → ℕ
total [] = 0
total (x ∷ xs) = x + total xs

-- no number of a list is above their sum
at_most_all : (xs : List ℕ) (q : ℕ) → Contains xs q → q ≤ total xs
at_most_all [] q (k, l, e) = absurd (omega (arith, l))
at_most_all (x ∷ xs) q (zero, l, e) = let same : x ≡ q = e in omega (arith, same)
at_most_all (x ∷ xs) q (suc k, l, e) = let most = at_most_all xs q (k, omega (arith, l), e) in omega (arith, most)

-- the numbers up to all that are keys, of which those that wait are kept
abbrev candidates : TableOf → List ℕ
candidates t = numbers (suc (total (keys_of t.waits))) 0

among : (t : TableOf) (c : Member) (q : ℕ) → waits_in t.waits q ≡ Some c → Contains (candidates t) q
among t c q w =
    let most = at_most_all (keys_of t.waits) q (Contains-keys_from_lookup {eq = λ x y. is_at (nat_cmp x) y} exact q
    t.waits (some_is (waits_in t.waits q) c w)) in
    numbers_all (suc (total (keys_of t.waits))) 0 q (omega arith) (omega (arith, most))

pub has_waiters : (t : TableOf) → HasWaiters (table_of t)
has_waiters t = λ c. (
  filter (λ q. is_on c (waits_in t.waits q)) (candidates t),
  (λ q. (
    λ w. kept (λ r. is_on c (waits_in t.waits r)) (candidates t) q (among t c q w) (ap (is_on c) w ∙ it_is_on c),
    λ h. on_it c (waits_in t.waits q)
        (All-contains (λ r. is_on c (waits_in t.waits r) ≡ true)
        (filter (λ r. is_on c (waits_in t.waits r)) (candidates t)) q
        (filter_passes (λ r. is_on c (waits_in t.waits r)) (candidates t)) h),
  )),
  IsStrictlyIncreasing-filter (λ q. is_on c (waits_in t.waits q)) (candidates t)
      (numbers_rise (suc (total (keys_of t.waits))) 0),
)
