-- Nobody stands twice in a list.
use Rattle.std.proofs.Common.{◌≡◌, ℕ, true, false, eqb, Option, Some, None, List, [], ◌∷◌, ◌++◌, get_or}
use Rattle.std.proofs.Common.{refl, sym, ap, ◌∙◌, ◌%◌, inl, inr}
use Rattle.std.proofs.lemmas.Bool.{eq-eqb, eqb-true, or_cases, or_parts, or_left, or_right, both_ways}
use Rattle.std.proofs.lemmas.Bool.{false_from_ne_true}
use Rattle.std.proofs.lemmas.List.Folds.{list_any-append}
use Rattle.words.specs.declared.mem.Addr.{Addr}
use Rattle.buckets.specs.declared.sleeper.Sleeper.{Sleeper}
use Rattle.buckets.specs.Lists.{among, Stand}
use Rattle.buckets.specs.Chains.{Once}
use Rattle.buckets.proofs.Drops.{others, others-same, others-kept}

pub once_of : (places : List (Option Addr)) (n k : ℕ) (ss : List Sleeper) → Stand places n k ss → Once ss
once_of places n k [] st = tt
once_of places n k (s ∷ ss) st = (st.2, once_of places n k ss st.3)

-- who stands in a bucket's list sleeps on an address of the bucket
pub home_of : (places : List (Option Addr)) (n k t : ℕ) (ss : List Sleeper) → Stand places n k ss → among t ss ≡ true
    → (a : Addr) × (get_or places t None ≡ Some a) × (a.0 % n ≡ k)
home_of places n k t [] st h = absurd cc
home_of places n k t (s ∷ ss) st h = elim (or_cases (eqb t s.thread) (among t ss) h) [
  | inl q ↦ (s.address, rw (eqb-true t s.thread q) st.1, st.0)
  | inr q ↦ home_of places n k t ss st.3 q
]

pub once_rest : (xs ys : List Sleeper) → Once (xs ++ ys) → Once ys
once_rest [] ys o = o
once_rest (x ∷ xs) ys o = once_rest xs ys o.1

pub once_apart : (t : ℕ) (xs ys : List Sleeper) → Once (xs ++ ys) → among t xs ≡ true → among t ys ≡ false
once_apart t [] ys o h = absurd cc
once_apart t (x ∷ xs) ys o h = elim (or_cases (eqb t x.thread) (among t xs) h) [
  | inl q ↦ rw (eqb-true t x.thread q) (or_parts (among x.thread xs) (among x.thread ys)
      (sym (list_any-append (λ y. eqb x.thread y.thread) xs ys) ∙ o.0)).1
  | inr q ↦ once_apart t xs ys o.1 q
]

-- who stands between two parts of a list stands in neither
pub once_front : (xs : List Sleeper) (s : Sleeper) (ys : List Sleeper) → Once (xs ++ s ∷ ys) → among s.thread xs ≡ false
once_front xs s ys o = false_from_ne_true _ (λ h. both_ways (among s.thread (s ∷ ys))
    (once_apart s.thread xs (s ∷ ys) o h) (or_left (eqb s.thread s.thread) _ (eq-eqb s.thread s.thread refl)))

pub once_back : (xs : List Sleeper) (s : Sleeper) (ys : List Sleeper) → Once (xs ++ s ∷ ys) → among s.thread ys ≡ false
once_back xs s ys o = (once_rest xs (s ∷ ys) o).0

-- the list without one who stands once in it
pub others_absent : (t : ℕ) (ss : List Sleeper) → among t ss ≡ false → others t ss ≡ ss
others_absent t [] h = refl
others_absent t (s ∷ ss) h =
    let p = or_parts (eqb t s.thread) (among t ss) h in
    others-kept t s ss (λ e. both_ways (eqb t s.thread) p.0 (eq-eqb t s.thread (sym e)))
    ∙ ap (λ x. s ∷ x) (others_absent t ss p.1)

pub others_parts : (t : ℕ) (xs : List Sleeper) (s : Sleeper) (ys : List Sleeper) → s.thread ≡ t → among t xs ≡ false
    → among t ys ≡ false → others t (xs ++ s ∷ ys) ≡ xs ++ ys
others_parts t [] s ys e h g = others-same t s ys e ∙ others_absent t ys g
others_parts t (x ∷ xs) s ys e h g =
    let p = or_parts (eqb t x.thread) (among t xs) h in
    others-kept t x (xs ++ s ∷ ys) (λ q. both_ways (eqb t x.thread) p.0 (eq-eqb t x.thread (sym q)))
    ∙ ap (λ zs. x ∷ zs) (others_parts t xs s ys e p.1 g)

-- the whole list names whom a part names
pub among_front : (t : ℕ) (xs ys : List Sleeper) → among t xs ≡ true → among t (xs ++ ys) ≡ true
among_front t xs ys h = list_any-append (λ y. eqb t y.thread) xs ys ∙ or_left (among t xs) _ h

pub among_back : (t : ℕ) (xs ys : List Sleeper) → among t ys ≡ true → among t (xs ++ ys) ≡ true
among_back t xs ys h = list_any-append (λ y. eqb t y.thread) xs ys ∙ or_right (among t xs) _ h
