-- Positions in a body, one over the other.
use Rattle.std.proofs.Common.{◌≡◌, Bor, ◌+◌, ◌-◌, ◌<◌, ◌≤◌, List, [], ◌∷◌, ◌++◌, length, take, drop, get_or, set, Some}
use Rattle.std.proofs.Common.{refl, ap, sym, ◌∙◌, arith, ℕ, subst}
use Rattle.std.proofs.lemmas.List.{take_all, take_more, take-set, take_more_set, length-set}
use Rattle.program.specs.declared.statement.Statement.{Statement as StatementOf}
use Rattle.program.specs.Trees.{Block, Done, Then, followed_by}
use Rattle.program.specs.Views.{block_before, block_in, statement_of}
use Rattle.source_offers.specs.Rests.{stacked_blocks, rest_in, IsTaken}

-- a position more
pub stacked-more : (xs : List (Bor (List StatementOf))) (x : Bor (List StatementOf)) (later : Block)
    → stacked_blocks (xs ++ x ∷ []) later ≡ block_before x.now (stacked_blocks xs later)
stacked-more [] x later = refl
stacked-more (y ∷ ys) x later = stacked-more ys x (block_before y.now later)

pub empty_list : {A : Type 0} (xs : List A) → length xs < 1 → xs ≡ []
empty_list [] l = refl
empty_list (x ∷ xs) l = absurd (omega (arith, l))

pub first_split : {A : Type 0} (xs : List A) (x : A) → 1 ≤ length xs → x ≡ get_or xs 0 x → xs ≡ x ∷ drop 1 xs
first_split [] x l e = absurd (omega (arith, l))
first_split (y ∷ ys) x l e = ap (λ z. z ∷ ys) (sym e)

pub last_split : {A : Type 0} (xs : List A) (x : A) → 1 ≤ length xs → x ≡ get_or xs (length xs - 1) x
    → xs ≡ take (length xs - 1) xs ++ x ∷ []
last_split xs x l e =
    let all : length xs ≡ length xs - 1 + 1 = omega (arith, l) in
    sym (take_all (length xs) xs (omega arith)) ∙ ap (λ n. take n xs) all
    ∙ take_more xs (length xs - 1) x (omega (arith, l))
    ∙ ap (λ y. take (length xs - 1) xs ++ y ∷ []) (sym e)

-- the last position comes first
pub rest_last : (xs : List (Bor (List StatementOf))) (x : Bor (List StatementOf)) → 1 ≤ length xs
    → x ≡ get_or xs (length xs - 1) x
    → rest_in xs ≡ block_before x.now (rest_in (take (length xs - 1) xs))
rest_last xs x l e = ap rest_in (last_split xs x l e) ∙ stacked-more (take (length xs - 1) xs) x Done

-- the last position was taken off
pub rest_popped : (xs ys : List (Bor (List StatementOf))) (x : Bor (List StatementOf)) (n : ℕ) → n ≡ length xs
    → 1 ≤ n → x ≡ get_or xs (n - 1) x → ys ≡ take (n - 1) (set xs (n - 1) x)
    → rest_in xs ≡ block_before x.now (rest_in ys)
rest_popped xs ys x n all l e off =
    let kept : take (length xs - 1) xs ≡ ys =
    sym (off ∙ take-set xs (n - 1) x ∙ ap (λ k. take (k - 1) xs) all) in
    rest_last xs x (omega (arith, all, l)) (subst (λ k. x ≡ get_or xs (k - 1) x) all e)
    ∙ ap (λ zs. block_before x.now (rest_in zs)) kept

-- another position in place of the last one
pub rest_set : (xs : List (Bor (List StatementOf))) (x : Bor (List StatementOf)) (n : ℕ) → n ≡ length xs → 1 ≤ n
    → rest_in (set xs (n - 1) x) ≡ block_before x.now (rest_in (take (n - 1) xs))
rest_set xs x n all l =
    let next : n - 1 + 1 ≡ length xs = omega (arith, all, l) in
    let split : set xs (n - 1) x ≡ take (n - 1) xs ++ x ∷ [] =
    sym (take_all (length xs) (set xs (n - 1) x) (grind (arith, length-set)))
    ∙ ap (λ k. take k (set xs (n - 1) x)) (sym next)
    ∙ take_more_set xs (n - 1) x (omega (arith, all, l)) in
    ap rest_in split ∙ stacked-more (take (n - 1) xs) x Done

pub rest_pushed : (before after : List (Bor (List StatementOf))) (x : Bor (List StatementOf))
    → after ≡ before ++ x ∷ []
    → rest_in after ≡ block_before x.now (rest_in before)
rest_pushed before after x e = ap rest_in e ∙ stacked-more before x Done

pub taken : (before after below : Block) (ss : List StatementOf) → 1 ≤ length ss → before ≡ block_before ss below
    → after ≡ block_before (drop 1 ss) below → IsTaken (Some ss) before after
taken before after below [] l b a = absurd (omega (arith, l))
taken before after below (s ∷ ss) l b a = b ∙ sym (ap (Then (statement_of s)) a)

-- the statements of a block, before others
pub followed_by-block : (ss : List StatementOf) (later : Block)
    → followed_by (block_in ss) later ≡ block_before ss later
followed_by-block [] later = refl
followed_by-block (s ∷ ss) later = ap (Then (statement_of s)) (followed_by-block ss later)

pub dropped_one : {A : Type 0} (xs : List A) → length xs < 2 → drop 1 xs ≡ []
dropped_one [] l = refl
dropped_one (x ∷ []) l = refl
dropped_one (x ∷ y ∷ ys) l = absurd (omega (arith, l))
