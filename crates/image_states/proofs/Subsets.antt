-- A list for each set of numbers.
use Rattle.std.proofs.Common.{◌≡◌, ◌+◌, ◌<◌, ◌≤◌, ◌==◌, ℕ, zero, suc, Bool, true, false, cond, List, [], ◌∷◌, ◌++◌, length}
use Rattle.std.proofs.Common.{get_or, map, take, filter, Contains, refl, sym, ap, ◌∙◌, subst, arith}
use Rattle.std.proofs.lemmas.Bool.Decides.{nat_tests}
use Rattle.std.proofs.lemmas.List.{append-nil}
use Rattle.std.proofs.lemmas.List.Elements.{All-contains, Contains-append_left, Contains-append_right, filter_more}
use Rattle.std.proofs.lemmas.List.Elements.{filter_passes}
use Rattle.std.specs.Prelude.{All}
use Rattle.std.proofs.lemmas.List.Elements.{All-append, All-push}
use Rattle.image_states.specs.Choosing.{HasEachSet}
use Rattle.image_states.specs.Room.{AreThreads}

-- what a function makes of an element is among what it makes of all
pub contains_map : {X Y : Type 0} (f : X → Y) (xs : List X) (x : X) → Contains xs x → Contains (map f xs) (f x)
contains_map f [] x (k, l, e) = absurd (omega (arith, l))
contains_map f (y ∷ ys) x (zero, l, e) = (zero, omega arith, ap f e)
contains_map f (y ∷ ys) x (suc k, l, e) =
    let rest : Contains (map f ys) (f x) = contains_map f ys x (k, omega (arith, l), e) in
    let less : rest.0 < length (map f ys) = rest.1 in
    (suc rest.0, omega (arith, less), rest.2)

-- sets of one number more: those without it, and those with it
pub one_more : (numbers : List ℕ) (i n : ℕ) (lists more : List (List ℕ)) → i < length numbers
    → n ≡ get_or numbers i 0
    → more ≡ map (λ list. list ++ n ∷ []) lists → HasEachSet (take i numbers) lists
    → HasEachSet (take (i + 1) numbers) (lists ++ more)
one_more numbers i n lists more less is e each is_in =
    subst (Contains (lists ++ more)) (sym (filter_more is_in numbers i 0 less))
    (subst (λ x. Contains (lists ++ more) (filter is_in (take i numbers) ++ cond (is_in x) (x ∷ []) [])) is
    (by_test (is_in n)))
  where
    by_test : (b : Bool) → Contains (lists ++ more) (filter is_in (take i numbers) ++ cond b (n ∷ []) [])
    by_test true = Contains-append_right lists more (filter is_in (take i numbers) ++ n ∷ [])
        (subst (λ xs. Contains xs (filter is_in (take i numbers) ++ n ∷ [])) (sym e)
        (contains_map (λ list. list ++ n ∷ []) lists (filter is_in (take i numbers)) (each is_in)))
    by_test false = Contains-append_left lists more (filter is_in (take i numbers) ++ [])
        (subst (Contains lists) (sym (append-nil (filter is_in (take i numbers)))) (each is_in))

-- the one set of no numbers
pub first_set : (numbers : List ℕ) → HasEachSet (take 0 numbers) ([] ∷ [])
first_set [] is_in = (0, omega arith, refl)
first_set (n ∷ ns) is_in = (0, omega arith, refl)

-- each list is of threads
pub threads_first : (many : ℕ) → All (AreThreads many) ([] ∷ [])
threads_first many = All-push (AreThreads many) [] [] (λ i d less. absurd (omega (arith, less)))
    (λ i d less. absurd (omega (arith, less)))

threads_longer : (many n : ℕ) (lists : List (List ℕ)) → (0 < n) × (n ≤ many) → All (AreThreads many) lists
    → All (AreThreads many) (map (λ list. list ++ n ∷ []) lists)
threads_longer many n [] is all i d less = absurd (omega (arith, less))
threads_longer many n (list ∷ lists) is all zero d less =
    All-push (λ t. (0 < t) × (t ≤ many)) list n (all 0 d (omega arith)) is
threads_longer many n (list ∷ lists) is all (suc i) d less =
    threads_longer many n lists is (λ j e l. all (suc j) e (omega (arith, l))) i d (omega (arith, less))

pub threads_more : (many : ℕ) (lists more : List (List ℕ)) (n : ℕ) → more ≡ map (λ list. list ++ n ∷ []) lists
    → All (AreThreads many) lists → (0 < n) × (n ≤ many) → All (AreThreads many) (lists ++ more)
threads_more many lists more n e all is =
    All-append (AreThreads many) lists more all
    (subst (All (AreThreads many)) (sym e) (threads_longer many n lists is all))

-- whether a number is one of these
abbrev pub is_one_of : List ℕ → ℕ → Bool
is_one_of [] q = false
is_one_of (r ∷ rs) q = cond (r == q) true (is_one_of rs q)

pub one_of : (rs : List ℕ) (q : ℕ) → is_one_of rs q ≡ true → Contains rs q
one_of [] q e = absurd (cc)
one_of (r ∷ rs) q e = at (r == q) refl (one_of rs q) e
  where
    at : (b : Bool) → (r == q) ≡ b → (is_one_of rs q ≡ true → Contains rs q) → cond b true (is_one_of rs q) ≡ true
        → Contains (r ∷ rs) q
    at true is rest e = (zero, omega arith, grind (arith, nat_tests, is))
    at false is rest e =
        let less : (rest e).0 < length rs = (rest e).1 in (suc (rest e).0, omega (arith, less), (rest e).2)

pub among : (rs : List ℕ) (q : ℕ) → Contains rs q → is_one_of rs q ≡ true
among [] q (k, l, e) = absurd (omega (arith, l))
among (r ∷ rs) q (zero, l, e) =
    let is : (r == q) ≡ true = grind (arith, nat_tests, e) in ap (λ b. cond b true (is_one_of rs q)) is
among (r ∷ rs) q (suc k, l, e) = at (r == q) (among rs q (k, omega (arith, l), e))
  where
    at : (b : Bool) → is_one_of rs q ≡ true → cond b true (is_one_of rs q) ≡ true
    at true e = refl
    at false e = e

-- what passes a test stays in a list
pub stays : (test : ℕ → Bool) (xs : List ℕ) (q : ℕ) → Contains xs q → test q ≡ true → Contains (filter test xs) q
stays test [] q (k, l, e) passes = absurd (omega (arith, l))
stays test (x ∷ xs) q (zero, l, e) passes = at (test x) (ap test e ∙ passes)
  where
    at : (b : Bool) → b ≡ true → Contains (cond b (x ∷ filter test xs) (filter test xs)) q
    at true is = (zero, omega arith, e)
    at false is = absurd (cc)
stays test (x ∷ xs) q (suc k, l, e) passes = at (test x) (stays test xs q (k, omega (arith, l), e) passes)
  where
    at : (b : Bool) → Contains (filter test xs) q → Contains (cond b (x ∷ filter test xs) (filter test xs)) q
    at true c = let less : c.0 < length (filter test xs) = c.1 in (suc c.0, omega (arith, less), c.2)
    at false c = c

-- what stays passes the test
pub passes : (test : ℕ → Bool) (xs : List ℕ) (q : ℕ) → Contains (filter test xs) q → test q ≡ true
passes test xs q c = All-contains (λ x. test x ≡ true) (filter test xs) q (filter_passes test xs) c
