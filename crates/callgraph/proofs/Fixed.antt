-- Chains of one more call, where they begin at the same procedures.
use Rattle.std.proofs.Common.{◌≡◌, ℕ, zero, suc, ◌<◌, ◌≤◌, ◌+◌, List, [], ◌∷◌, length, slice_index_or, Bool}
use Rattle.std.proofs.Common.{true, false, ◌||◌, ◌&&◌, not, nat_eq, refl, ap, ◌∙◌, sym, arith, add-zero}
use Rattle.std.proofs.Common.{subst, count_by, cond, zero-add}
use Rattle.std.proofs.lemmas.List.Sums.{sum_by-cons}
use mathlib.Core.Bool.{beq}
use lib.Pointwise.{pointwise}
use Rattle.std.specs.List.{list_any}
use Rattle.callgraph.specs.declared.Call.{Call}
use Rattle.callgraph.specs.Calls.{Within, has_chain}
use Rattle.callgraph.proofs.Lengths.{any_alike}

or_weaker : (b c d e : Bool) → (b ≡ true → d ≡ true) → (c ≡ true → e ≡ true) → (b || c) ≡ true → (d || e) ≡ true
or_weaker true c d e f g h = ap (λ x. x || e) (f refl)
or_weaker false c true e f g h = refl
or_weaker false c false e f g h = g h

and_weaker : (b c d : Bool) → (c ≡ true → d ≡ true) → (b && c) ≡ true → (b && d) ≡ true
and_weaker true c d f h = f h
and_weaker false c d f h = h

any_weaker : {X : Type 0} (p q : X → Bool) (xs : List X) → ((x : X) → p x ≡ true → q x ≡ true)
    → list_any p xs ≡ true → list_any q xs ≡ true
any_weaker p q [] f h = h
any_weaker p q (x ∷ xs) f h = or_weaker (p x) (list_any p xs) (q x) (list_any q xs) (f x) (any_weaker p q xs f) h

-- a chain has a chain of one call less in it
pub one_less : (calls : List Call) (n a : ℕ) → has_chain calls (suc n) a ≡ true → has_chain calls n a ≡ true
one_less calls zero a h = refl
one_less calls (suc n) a h = any_weaker _ _ calls (λ c. and_weaker (nat_eq c.caller a) _ _
    (one_less calls n c.callee)) h

pub less : (calls : List Call) (n k a : ℕ) → has_chain calls (n + k) a ≡ true → has_chain calls n a ≡ true
less calls n zero a h = subst (λ m. has_chain calls m a ≡ true) (add-zero n) h
less calls n (suc k) a h = less calls n k a (one_less calls (n + k) a (let e : n + suc k ≡ suc (n + k) =
    omega arith in subst (λ m. has_chain calls m a ≡ true) e h))

same_from : (calls : List Call) (count n : ℕ) → Within calls count → ((a : ℕ) → a < count
    → has_chain calls (n + 1) a ≡ has_chain calls n a) → (k a : ℕ) → a < count
    → has_chain calls (n + k) a ≡ has_chain calls n a
same_from calls count n within same zero a h = ap (λ m. has_chain calls m a) (add-zero n)
same_from calls count n within same (suc k) a h =
    let e : n + suc k ≡ suc (n + k) = omega arith in
    let f : suc n ≡ n + 1 = omega arith in
    ap (λ m. has_chain calls m a) e
    ∙ any_alike _ _ calls (λ i d j. ap (λ b. nat_eq (slice_index_or calls i d).caller a && b)
    (same_from calls count n within same k (slice_index_or calls i d).callee (within i d j).1))
    ∙ ap (λ m. has_chain calls m a) f ∙ same a h

-- then chains of each length do
pub all_chains : (calls : List Call) (count n : ℕ) → Within calls count → ((a : ℕ) → a < count
    → has_chain calls (n + 1) a ≡ has_chain calls n a) → (m a : ℕ) → a < count → has_chain calls n a ≡ true
    → has_chain calls m a ≡ true
all_chains calls count n within same m a h t =
    let e : n + m ≡ m + n = omega arith in
    less calls m n a (ap (λ k. has_chain calls k a) (sym e) ∙ same_from calls count n within same m a h ∙ t)

pub one_more : (ys : List Bool) → count_by (λ m. m) (true ∷ ys) ≡ 1 + count_by (λ m. m) ys
one_more ys = sum_by-cons (λ m. cond m 1 0) true ys

pub none_more : (ys : List Bool) → count_by (λ m. m) (false ∷ ys) ≡ count_by (λ m. m) ys
none_more ys = sum_by-cons (λ m. cond m 1 0) false ys ∙ zero-add _

no_more : (xs ys : List Bool) → length xs ≡ length ys → ((a : ℕ) → slice_index_or xs a false ≡ true
    → slice_index_or ys a false ≡ true) → count_by (λ m. m) xs ≤ count_by (λ m. m) ys
no_more [] ys e h = omega arith
no_more (x ∷ xs) [] e h = omega (arith, e)
no_more (true ∷ xs) (true ∷ ys) e h = let f : length xs ≡ length ys = omega (arith, e) in
    let r : count_by (λ m. m) xs ≤ count_by (λ m. m) ys = no_more xs ys f (λ a. h (suc a)) in
    omega (arith, r, one_more xs, one_more ys)
no_more (true ∷ xs) (false ∷ ys) e h = let w : false ≡ true = h 0 refl in cc
no_more (false ∷ xs) (true ∷ ys) e h = let f : length xs ≡ length ys = omega (arith, e) in
    let r : count_by (λ m. m) xs ≤ count_by (λ m. m) ys = no_more xs ys f (λ a. h (suc a)) in
    omega (arith, r, none_more xs, one_more ys)
no_more (false ∷ xs) (false ∷ ys) e h = let f : length xs ≡ length ys = omega (arith, e) in
    let r : count_by (λ m. m) xs ≤ count_by (λ m. m) ys = no_more xs ys f (λ a. h (suc a)) in
    omega (arith, r, none_more xs, none_more ys)

-- marks that are among others, and not the same, are fewer
pub fewer : (xs ys : List Bool) → length xs ≡ length ys → ((a : ℕ) → slice_index_or xs a false ≡ true
    → slice_index_or ys a false ≡ true) → (xs ≡ ys → ⊥) → count_by (λ m. m) xs < count_by (λ m. m) ys
fewer [] [] e h n = absurd (n refl)
fewer [] (y ∷ ys) e h n = omega (arith, e)
fewer (x ∷ xs) [] e h n = omega (arith, e)
fewer (true ∷ xs) (true ∷ ys) e h n = let f : length xs ≡ length ys = omega (arith, e) in
    let r : count_by (λ m. m) xs < count_by (λ m. m) ys =
    fewer xs ys f (λ a. h (suc a)) (λ q. n (ap (λ zs. true ∷ zs) q)) in omega (arith, r, one_more xs, one_more ys)
fewer (true ∷ xs) (false ∷ ys) e h n = let w : false ≡ true = h 0 refl in cc
fewer (false ∷ xs) (true ∷ ys) e h n = let f : length xs ≡ length ys = omega (arith, e) in
    let r : count_by (λ m. m) xs ≤ count_by (λ m. m) ys = no_more xs ys f (λ a. h (suc a)) in
    omega (arith, r, none_more xs, one_more ys)
fewer (false ∷ xs) (false ∷ ys) e h n = let f : length xs ≡ length ys = omega (arith, e) in
    let r : count_by (λ m. m) xs < count_by (λ m. m) ys =
    fewer xs ys f (λ a. h (suc a)) (λ q. n (ap (λ zs. false ∷ zs) q)) in omega (arith, r, none_more xs, none_more ys)

pub same_marks : (xs ys : List Bool) → pointwise beq xs ys ≡ true → xs ≡ ys
same_marks [] [] h = refl
same_marks [] (y ∷ ys) h = cc
same_marks (x ∷ xs) [] h = cc
same_marks (true ∷ xs) (true ∷ ys) h = ap (λ zs. true ∷ zs) (same_marks xs ys h)
same_marks (true ∷ xs) (false ∷ ys) h = cc
same_marks (false ∷ xs) (true ∷ ys) h = cc
same_marks (false ∷ xs) (false ∷ ys) h = ap (λ zs. false ∷ zs) (same_marks xs ys h)

itself : (xs : List Bool) → pointwise beq xs xs ≡ true
itself [] = refl
itself (true ∷ xs) = itself xs
itself (false ∷ xs) = itself xs

pub other_marks : (xs ys : List Bool) → pointwise beq xs ys ≡ false → xs ≡ ys → ⊥
other_marks xs ys h e = let w : pointwise beq xs ys ≡ true = ap (λ zs. pointwise beq xs zs) (sym e)
    ∙ itself xs in let v : false ≡ true = sym h ∙ w in cc

pub beyond : (xs : List Bool) (a : ℕ) → slice_index_or xs a false ≡ true → a < length xs
beyond [] a h = cc
beyond (x ∷ xs) zero h = omega arith
beyond (x ∷ xs) (suc a) h = let r : a < length xs = beyond xs a h in omega (arith, r)

pub one_step : (calls : List Call) (n a : ℕ) → has_chain calls (n + 1) a ≡ true → has_chain calls n a ≡ true
one_step calls n a h = one_less calls n a (let e : n + 1 ≡ suc n = omega arith in
    subst (λ m. has_chain calls m a ≡ true) e h)

pub not_true : (b : Bool) → not b ≡ true → b ≡ false
not_true true h = sym h
not_true false h = refl

pub not_false : (b : Bool) → not b ≡ false → b ≡ true
not_false true h = refl
not_false false h = sym h
