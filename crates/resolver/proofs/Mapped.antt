-- What is made of the elements of a list, one after another.
use Rattle.std.proofs.Common.{◌≡◌, ◌<◌, ◌≤◌, ◌+◌, ℕ, List, [], ◌∷◌, ◌++◌, length, map, take, get_or, ap, ◌∙◌, sym}
use Rattle.std.proofs.lemmas.List.{take_more, take_all, map-append}

-- one more
pub mapped_step : {A B C D : Type 0} (f : A → D) (g : C → D) (h : B → C) (xs new : List A) (a : A) (ys : List B)
    (i : ℕ) (b : B) → i < length ys → b ≡ get_or ys i b → new ≡ xs ++ a ∷ [] → f a ≡ g (h b)
    → map f xs ≡ map g (map h (take i ys)) → map f new ≡ map g (map h (take (i + 1) ys))
mapped_step f g h xs new a ys i b lt is pushed same before =
    ap (map f) pushed ∙ map-append f xs (a ∷ []) ∙ ap (λ l. l ++ f a ∷ []) before
    ∙ ap (λ y. map g (map h (take i ys)) ++ y ∷ []) (same ∙ ap (λ y. g (h y)) is)
    ∙ sym (ap (λ l. map g (map h l)) (take_more ys i b lt)
    ∙ ap (map g) (map-append h (take i ys) (get_or ys i b ∷ []))
    ∙ map-append g (map h (take i ys)) (h (get_or ys i b) ∷ []))

-- all of them
pub mapped_all : {B D : Type 0} (g : List B → List D) (made : List D) (ys : List B) (i : ℕ) → length ys ≤ i
    → made ≡ g (take i ys) → made ≡ g ys
mapped_all g made ys i past e = e ∙ ap g (take_all i ys past)
