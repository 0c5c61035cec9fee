-- Chains of operators, link by link.
use Rattle.std.proofs.Common.{◌≡◌, ◌≤◌, ◌<◌, ◌+◌, ℕ, suc, List, [], ◌∷◌, length, drop, get_or, drop-cons}
use Rattle.std.proofs.Common.{ap, ◌∙◌, sym, arith}
use Rattle.std.proofs.lemmas.List.{at_drop_all}
use Rattle.program.specs.declared.kinds.Operator.{Operator}
use Rattle.program.specs.Trees.{Expression, Both}

-- a further link, and those behind it
pub next_link : {X Y : Type 0} (fold : Y → List X → Y) (one : Y → X → Y)
    → ((y : Y) (x : X) (xs : List X) → fold y (x ∷ xs) ≡ fold (one y x) xs) → (xs : List X) (i : ℕ) (x : X)
    (left new : Y) → i < length xs → x ≡ get_or xs i x → new ≡ one left x
    → fold new (drop (i + 1) xs) ≡ fold left (drop i xs)
next_link fold one step xs i x left new lt is e =
    let cut : drop i xs ≡ x ∷ drop (suc i) xs = drop-cons xs i x lt ∙ ap (λ y. y ∷ drop (suc i) xs) (sym is) in
    let same : i + 1 ≡ suc i = omega arith in
    ap (λ j. fold new (drop j xs)) same ∙ ap (λ y. fold y (drop (suc i) xs)) e
    ∙ sym (ap (fold left) cut ∙ step left x (drop (suc i) xs))

-- none is left
pub last_link : {X Y : Type 0} (fold : Y → List X → Y) → ((y : Y) → fold y [] ≡ y) → (xs : List X) (i : ℕ) (left : Y)
    → length xs ≤ i → fold left (drop i xs) ≡ left
last_link fold none xs i left h = at_drop_all (fold left) xs i h ∙ none left

-- an operator between operands that are these
pub both_made : (e : Expression) (o p : Operator) (l m r q : Expression) → e ≡ Both o l r → o ≡ p → l ≡ m → r ≡ q
    → e ≡ Both p m q
both_made e o p l m r q made h i j =
    made ∙ ap (λ y. Both y l r) h ∙ ap (λ y. Both p y r) i ∙ ap (λ y. Both p m y) j
