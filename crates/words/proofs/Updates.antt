-- A function that was changed at one place.
use Rattle.std.proofs.Common.{◌≡◌, ◌≢◌, ◌∙◌, ℕ, ◌==◌, refl, sym, ap}
use Rattle.std.proofs.lemmas.Bool.{cond_both, eqb-true, eqb-false}
use Rattle.words.specs.Updates.{put}

pub at_put : {A : Type 0} (f : ℕ → A) (i : ℕ) (v : A) (j : ℕ) (P : A → Type 0) → (j ≡ i → P v) → (j ≢ i → P (f j))
    → P (put f i v j)
at_put f i v j P here there = cond_both (j == i) v (f j) P (λ h. here (eqb-true j i h)) (λ h. there (eqb-false j i h))

pub at_put2 : {A B : Type 0} (f : ℕ → A) (g : ℕ → B) (i : ℕ) (v : A) (w : B) (j : ℕ) (P : A → B → Type 0)
    → (j ≡ i → P v w) → (j ≢ i → P (f j) (g j)) → P (put f i v j) (put g i w j)
at_put2 f g i v w j P here there =
    at_put f i v j (λ x. P x (put g i w j)) (λ h. at_put g i w j (P v) here (λ n. absurd (n h)))
    (λ n. at_put g i w j (P (f j)) (λ h. absurd (n h)) there)

pub put_same : {A : Type 0} (f : ℕ → A) (i : ℕ) (v : A) → put f i v i ≡ v
put_same f i v = at_put f i v i (λ x. x ≡ v) (λ h. refl) (λ h. absurd (h refl))

pub put_at : {A : Type 0} (f : ℕ → A) (i : ℕ) (v : A) (j : ℕ) → j ≡ i → put f i v j ≡ v
put_at f i v j is = ap (put f i v) is ∙ put_same f i v

pub put_other : {A : Type 0} (f : ℕ → A) (i : ℕ) (v : A) (j : ℕ) → j ≢ i → put f i v j ≡ f j
put_other f i v j ne = at_put f i v j (λ x. x ≡ f j) (λ h. absurd (ne h)) (λ h. refl)

pub put_again : {A : Type 0} (f : ℕ → A) (i : ℕ) (v w : A) (j : ℕ) → put (put f i v) i w j ≡ put f i w j
put_again f i v w j = at_put2 (put f i v) f i w w j (λ x y. x ≡ y) (λ h. refl) (λ o. put_other f i v j o)

pub put_itself : {A : Type 0} (f : ℕ → A) (i : ℕ) (v : A) (j : ℕ) → f i ≡ v → put f i v j ≡ f j
put_itself f i v j is = at_put f i v j (λ x. x ≡ f j) (λ h. sym (ap f h ∙ is)) (λ o. refl)
