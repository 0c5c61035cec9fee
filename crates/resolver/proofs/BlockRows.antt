-- What is made of the elements of a list, one after another.
use Rattle.std.proofs.Common.{◌≡◌, ◌<◌, ◌≤◌, ◌+◌, ℕ, List, [], ◌∷◌, ◌++◌, length, map, take, get_or, ap, ◌∙◌, sym}
use Rattle.std.proofs.lemmas.List.{take_more, take_all, map-append}

one_more : {B C D : Type 0} (g : C → D) (h : B → C) (ys : List B) (i : ℕ) (e : B) → i < length ys
    → map g (map h (take (i + 1) ys)) ≡ map g (map h (take i ys)) ++ g (h (get_or ys i e)) ∷ []
one_more g h ys i e lt = ap (λ l. map g (map h l)) (take_more ys i e lt)
    ∙ ap (map g) (map-append h (take i ys) (get_or ys i e ∷ []))
    ∙ map-append g (map h (take i ys)) (h (get_or ys i e) ∷ [])

-- one more
pub row_step : {B C D : Type 0} (g : C → D) (h : B → C) (xs new : List D) (d : D) (ys : List B) (i : ℕ) (e : B)
    → i < length ys → new ≡ xs ++ d ∷ [] → d ≡ g (h (get_or ys i e)) → xs ≡ map g (map h (take i ys))
    → new ≡ map g (map h (take (i + 1) ys))
row_step g h xs new d ys i e lt pushed same before =
    pushed ∙ ap (λ l. l ++ d ∷ []) before ∙ ap (λ y. map g (map h (take i ys)) ++ y ∷ []) same
    ∙ sym (one_more g h ys i e lt)

-- one more, of which a view is known
pub view_step : {A B C D : Type 0} (f : A → D) (g : C → D) (h : B → C) (xs new : List A) (a : A) (ys : List B)
    (i : ℕ) (e : B) → i < length ys → new ≡ xs ++ a ∷ [] → f a ≡ g (h (get_or ys i e))
    → map f xs ≡ map g (map h (take i ys)) → map f new ≡ map g (map h (take (i + 1) ys))
view_step f g h xs new a ys i e lt pushed same before =
    row_step g h (map f xs) (map f new) (f a) ys i e lt (ap (map f) pushed ∙ map-append f xs (a ∷ [])) same before

-- all of them
pub row_all : {B D : Type 0} (g : List B → List D) (made : List D) (ys : List B) (i : ℕ) → length ys ≤ i
    → made ≡ g (take i ys) → made ≡ g ys
row_all g made ys i past e = e ∙ ap g (take_all i ys past)
