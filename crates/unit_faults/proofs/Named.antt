-- A list that a loop makes of another's elements, one after another.
use Rattle.std.proofs.Common.{◌≡◌, ℕ, ◌<◌, ◌≤◌, ◌+◌, List, [], ◌∷◌, ◌++◌, length, take, get_or, map, ap, ◌∙◌, sym}
use Rattle.std.proofs.Common.{append_assoc}
use Rattle.std.proofs.lemmas.List.{take_all, take_more, map-append}

pub named_more : {X Y : Type 0} (f : X → Y) (xs : List X) (i : ℕ) (x : X) (old before after : List Y)
    → before ≡ old ++ map f (take i xs) → i < length xs → x ≡ get_or xs i x → after ≡ before ++ f x ∷ []
    → after ≡ old ++ map f (take (i + 1) xs)
named_more f xs i x old before after so_far lt is pushed =
    pushed ∙ ap (λ l. l ++ f x ∷ []) so_far ∙ append_assoc old (map f (take i xs)) (f x ∷ [])
    ∙ ap (λ l. old ++ l) (sym (ap (map f) (take_more xs i x lt) ∙ map-append f (take i xs) (get_or xs i x ∷ [])
    ∙ ap (λ y. map f (take i xs) ++ f y ∷ []) (sym is)))

pub named_all : {X Y : Type 0} (f : X → Y) (xs : List X) (i : ℕ) (old before : List Y)
    → before ≡ old ++ map f (take i xs) → length xs ≤ i → before ≡ old ++ map f xs
named_all f xs i old before so_far h = so_far ∙ ap (λ l. old ++ map f l) (take_all i xs h)
