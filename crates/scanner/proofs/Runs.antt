-- The bytes that stand first in a text as far as a test passes.
use Rattle.std.proofs.Common.{◌≡◌, ℕ, ◌+◌, Bool, true, false, List, [], ◌∷◌, ◌++◌, take, drop, refl, sym, ap, ◌∙◌}
use Rattle.std.proofs.Common.{one-add, take-append-drop, inl, inr, ⊎_elim, ◌⊎◌}
use Rattle.std.specs.List.{prefix_len, list_all}
use Rattle.std.proofs.lemmas.Bool.{cond_both, and_from, and_parts, both_ways}
use Rattle.std.proofs.lemmas.List.Folds.{list_all-append}

-- the test doesn't pass at the first byte
abbrev pub Stops : (ℕ → Bool) → List ℕ → Type 0
Stops p [] = Unit {0}
Stops p (b ∷ bs) = p b ≡ false

-- `taken` are the bytes that stand first and pass the test
pub record Splits (p : ℕ → Bool) (bs taken rest : List ℕ) : Type 0 where
  pub parts : bs ≡ taken ++ rest
  pub passes : list_all p taken ≡ true
  pub stops : Stops p rest

prefix_passes : (p : ℕ → Bool) (bs : List ℕ) → list_all p (take (prefix_len p bs) bs) ≡ true
prefix_passes p [] = refl
prefix_passes p (b ∷ bs) = cond_both (p b) (1 + prefix_len p bs) 0 (λ n. list_all p (take n (b ∷ bs)) ≡ true)
    (λ e. rw one-add (and_from (p b) _ e (prefix_passes p bs))) (λ _. refl)

prefix_stops : (p : ℕ → Bool) (bs : List ℕ) → Stops p (drop (prefix_len p bs) bs)
prefix_stops p [] = tt
prefix_stops p (b ∷ bs) = cond_both (p b) (1 + prefix_len p bs) 0 (λ n. Stops p (drop n (b ∷ bs)))
    (λ e. rw one-add (prefix_stops p bs)) (λ e. e)

pub splits : (p : ℕ → Bool) (bs taken rest : List ℕ) (n : ℕ) → n ≡ prefix_len p bs → taken ≡ take n bs
    → rest ≡ drop n bs → Splits p bs taken rest
splits p bs taken rest n n_is taken_is rest_is =
    rw (taken_is, rest_is, n_is) (record {
      parts = sym (take-append-drop (prefix_len p bs) bs);
      passes =
          prefix_passes p bs;
      stops = prefix_stops p bs;
    })

-- each of the first bytes passes
pub prefix_at : (p : ℕ → Bool) (b : ℕ) (xs ys : List ℕ) → list_all p (xs ++ b ∷ ys) ≡ true → p b ≡ true
prefix_at p b xs ys all =
    (and_parts (p b) (list_all p ys) (and_parts (list_all p xs) (list_all p (b ∷ ys))
    (sym (list_all-append p xs (b ∷ ys)) ∙ all)).1).0

-- the bytes up to the first that doesn't pass are determined, and so is that byte
pub run_unique : (p : ℕ → Bool) (xs ys : List ℕ) (c d : ℕ) (more rest : List ℕ) → list_all p xs ≡ true
    → list_all p ys ≡ true → p c ≡ false → p d ≡ false → xs ++ c ∷ more ≡ ys ++ d ∷ rest → (xs ≡ ys) × (c ≡ d)
    × (more ≡ rest)
run_unique p [] [] c d more rest ax ay fc fd e = (refl, cc, cc)
run_unique p [] (y ∷ ys) c d more rest ax ay fc fd e =
    let same : c ≡ y = cc in
    absurd (both_ways (p y) (ap p (sym same) ∙ fc) (and_parts (p y) _ ay).0)
run_unique p (x ∷ xs) [] c d more rest ax ay fc fd e =
    let same : d ≡ x = cc in
    absurd (both_ways (p x) (ap p (sym same) ∙ fd) (and_parts (p x) _ ax).0)
run_unique p (x ∷ xs) (y ∷ ys) c d more rest ax ay fc fd e =
    let tails : xs ++ c ∷ more ≡ ys ++ d ∷ rest = cc in
    let same : x ≡ y = cc in
    let r = run_unique p xs ys c d more rest (and_parts (p x) _ ax).1 (and_parts (p y) _ ay).1 fc fd tails in
    ((λ i. same i ∷ r.0 i), r.1, r.2)

-- of two fronts of one text one begins with the other
pub one_within : (a b x y : List ℕ) → a ++ x ≡ b ++ y
    → ((more : List ℕ) × (b ≡ a ++ more) × (x ≡ more ++ y)) ⊎ ((more : List ℕ) × (a ≡ b ++ more) × (y ≡ more ++ x))
one_within [] b x y e = inl (b, refl, e)
one_within (a ∷ more_a) [] x y e = inr (a ∷ more_a, refl, sym e)
one_within (a ∷ more_a) (b ∷ more_b) x y e =
    let same : a ≡ b = cc in
    let tails : more_a ++ x ≡ more_b ++ y = cc in
    ⊎_elim
    (λ w. inl (w.0, (λ i. (sym same) i ∷ w.1 i), w.2))
    (λ w. inr (w.0, (λ i. same i ∷ w.1 i), w.2))
    (one_within more_a more_b x y tails)
