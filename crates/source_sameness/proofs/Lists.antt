-- Lists that are compared element by element.
use Rattle.std.proofs.Common.{◌≡◌, ◌+◌, ◌<◌, ◌≤◌, ℕ, List, ◌∷◌, drop, get_or, length, map, sym, ap, ◌∙◌}
use Rattle.std.proofs.Common.{arith}
use Rattle.std.proofs.lemmas.List.{drop_all, drop_more}

-- what is left from an index on, with the element there
pub split_at : {X : Type 0} (xs : List X) (i : ℕ) (x : X) → i < length xs → x ≡ get_or xs i x
    → drop i xs ≡ x ∷ drop (i + 1) xs
split_at xs i x lt is = drop_more xs i x lt ∙ ap (λ y. y ∷ drop (i + 1) xs) (sym is)

-- two lists are folded from the left to the same, whatever they begin with
abbrev pub SameFolds : {X Y : Type 0} → (List X → Y → Y) → List X → List X → Type 0
SameFolds {X} {Y} fold xs ys = (y : Y) → fold xs y ≡ fold ys y

-- where what is left is the same, all is
abbrev pub IsEnough : {X Y : Type 0} → (List X → Y → Y) → List X → List X → ℕ → Type 0
IsEnough fold xs ys i = SameFolds fold (drop i xs) (drop i ys) → SameFolds fold xs ys

-- nothing is left
pub enough-all : {X Y : Type 0} (fold : List X → Y → Y) (xs ys : List X) (i : ℕ) → length xs ≤ i → length xs ≡ length ys
    → IsEnough fold xs ys i → SameFolds fold xs ys
enough-all fold xs ys i le e enough = enough (λ y.
    ap (λ l. fold l y) (drop_all i xs le) ∙ sym (ap (λ l. fold l y) (drop_all i ys (omega (arith, le, e)))))

-- heads that say the same before rests that do
pub same_heads : {X Y : Type 0} (f : X → Y) (xs ys : List X) (i : ℕ) (x y : X) → drop i xs ≡ x ∷ drop (i + 1) xs
    → drop i ys ≡ y ∷ drop (i + 1) ys → f x ≡ f y → map f (drop (i + 1) xs) ≡ map f (drop (i + 1) ys)
    → map f (drop i xs) ≡ map f (drop i ys)
same_heads f xs ys i x y sx sy e rest =
    let both : map f (x ∷ drop (i + 1) xs) ≡ map f (y ∷ drop (i + 1) ys) = λ j. e j ∷ rest j in
    ap (map f) sx ∙ both ∙ sym (ap (map f) sy)
