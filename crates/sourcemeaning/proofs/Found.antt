-- Movers that were found, and the numbers that are left.
use Rattle.std.proofs.Common.{◌≡◌, ◌↔◌, ◌⊎◌, ◌++◌, ◌+◌, ◌<◌, ℕ, zero, suc, List, [], ◌∷◌, length, get_or, drop}
use Rattle.std.proofs.Common.{Contains, ap, sym, ◌∙◌, subst, inl, inr, append_assoc, add-one, drop-cons, nat_cmp}
use Rattle.std.proofs.Common.{arith}
use Rattle.std.proofs.lemmas.List.{append-nil}
use Rattle.std.proofs.lemmas.List.Elements.{Contains-append_cases, Contains-append_left, Contains-append_right}
use Rattle.std.specs.List.{AllByRecursion}
use Rattle.std.proofs.lemmas.Map.Keys.{sorted_from_strictly_increasing}
use Rattle.std.specs.List.Sorted.{IsStrictlyIncreasing, IsStrictlySortedBy}
use Rattle.sourcemeaning.specs.Moving.{IsAdded}

-- those found and those left rise; all found can move; all that can move are found or left
pub record IsFound (Moves : ℕ → Type 0) (found rest : List ℕ) : Type 0 where
  pub rises : IsStrictlySortedBy nat_cmp (found ++ rest)
  pub moving : (q : ℕ) → Contains found q → Moves q
  pub all : (q : ℕ) → Moves q → Contains found q ⊎ Contains rest q

all_skip : (P : ℕ → Type 0) (xs : List ℕ) (n : ℕ) (ys : List ℕ) → AllByRecursion P (xs ++ n ∷ ys)
    → AllByRecursion P (xs ++ ys)
all_skip P [] n ys h = h.1
all_skip P (x ∷ xs) n ys h = (h.0, all_skip P xs n ys h.1)

skip : (xs : List ℕ) (n : ℕ) (ys : List ℕ) → IsStrictlySortedBy nat_cmp (xs ++ n ∷ ys)
    → IsStrictlySortedBy nat_cmp (xs ++ ys)
unfolding IsStrictlySortedBy
skip [] n ys h = h.1
skip (x ∷ xs) n ys h = (all_skip _ xs n ys h.0, skip xs n ys h.1)

first_or_later : (n q : ℕ) (later : List ℕ) → Contains (n ∷ later) q → (n ≡ q) ⊎ Contains later q
first_or_later n q later (zero, l, e) = inl e
first_or_later n q later (suc k, l, e) = inr (k, omega (arith, l), e)

one_of : (n q : ℕ) → (n ≡ q) ⊎ Contains [] q → n ≡ q
one_of n q (inl e) = e
one_of n q (inr (k, l, e)) = absurd (omega (arith, l))

found_moves : (Moves : ℕ → Type 0) (found : List ℕ) (n q : ℕ) → ((r : ℕ) → Contains found r → Moves r) → Moves n
    → Contains found q ⊎ Contains (n ∷ []) q → Moves q
found_moves Moves found n q all m (inl c) = all q c
found_moves Moves found n q all m (inr c) = subst Moves (one_of n q (first_or_later n q [] c)) m

cut : (found rest later : List ℕ) (n q : ℕ) → rest ≡ n ∷ later → Contains found q ⊎ Contains rest q
    → Contains found q ⊎ ((n ≡ q) ⊎ Contains later q)
cut found rest later n q split (inl c) = inl c
cut found rest later n q split (inr c) = inr (first_or_later n q later (subst (λ xs. Contains xs q) split c))

still : (found found' later : List ℕ) (n q : ℕ) → found' ≡ found ++ n ∷ []
    → Contains found q ⊎ ((n ≡ q) ⊎ Contains later q) → Contains found' q ⊎ Contains later q
still found found' later n q is (inl c) =
    inl (subst (λ xs. Contains xs q) (sym is) (Contains-append_left found (n ∷ []) q c))
still found found' later n q is (inr (inl e)) =
    inl (subst (λ xs. Contains xs q) (sym is) (Contains-append_right found (n ∷ []) q (0, omega arith, e)))
still found found' later n q is (inr (inr c)) = inr c

skipped : (Moves : ℕ → Type 0) (found later : List ℕ) (n q : ℕ) → (Moves n → ⊥) → Moves q
    → Contains found q ⊎ ((n ≡ q) ⊎ Contains later q) → Contains found q ⊎ Contains later q
skipped Moves found later n q never m (inl c) = inl c
skipped Moves found later n q never m (inr (inl e)) = absurd (never (subst Moves (sym e) m))
skipped Moves found later n q never m (inr (inr c)) = inr c

-- one number less is left
pub more : (Moves : ℕ → Type 0) (found found' rest later : List ℕ) (n : ℕ) → IsFound Moves found rest
    → rest ≡ n ∷ later → IsAdded (Moves n) n found found' → IsFound Moves found' later
more Moves found found' rest later n h split (inl (m, is)) = record {
  rises = subst (IsStrictlySortedBy nat_cmp)
      (ap (λ xs. found ++ xs) split ∙ sym (append_assoc found (n ∷ []) later)
      ∙ ap (λ xs. xs ++ later) (sym is)) h.rises;
  moving = λ q c. found_moves Moves found n q h.moving m
      (Contains-append_cases found (n ∷ []) q (subst (λ xs. Contains xs q) is c));
  all = λ q k. still found found' later n q is (cut found rest later n q split (h.all q k));
}
more Moves found found' rest later n h split (inr (never, is)) = record {
  rises = subst (λ xs. IsStrictlySortedBy nat_cmp (xs ++ later)) (sym is)
      (skip found n later (subst (IsStrictlySortedBy nat_cmp) (ap (λ xs. found ++ xs) split) h.rises));
  moving = λ q c. h.moving q (subst (λ xs. Contains xs q) is c);
  all = λ q k. subst (λ xs. Contains xs q ⊎ Contains later q) (sym is)
      (skipped Moves found later n q never k (cut found rest later n q split (h.all q k)));
}

-- none is left
pub found_all : (Moves : ℕ → Type 0) (found rest : List ℕ) → IsFound Moves found rest → rest ≡ []
    → IsStrictlySortedBy nat_cmp found
found_all Moves found rest h none =
    subst (IsStrictlySortedBy nat_cmp) (ap (λ xs. found ++ xs) none ∙ append-nil found) h.rises

all_found : (found : List ℕ) (q : ℕ) → Contains found q ⊎ Contains [] q → Contains found q
all_found found q (inl c) = c
all_found found q (inr (k, l, e)) = absurd (omega (arith, l))

pub found_each : (Moves : ℕ → Type 0) (found rest : List ℕ) (q : ℕ) → IsFound Moves found rest → rest ≡ [] → Moves q
    → Contains found q
found_each Moves found rest q h none m =
    all_found found q (subst (λ xs. Contains found q ⊎ Contains xs q) none (h.all q m))

-- the numbers from a place on are the one there and those after it
pub from_here : (xs : List ℕ) (i : ℕ) → i < length xs → drop i xs ≡ get_or xs i 0 ∷ drop (i + 1) xs
from_here xs i h = drop-cons xs i 0 h ∙ (λ j. get_or xs i 0 ∷ drop (sym (add-one i) j) xs)

-- none is found yet, and all are left
pub none_found : (Moves There : ℕ → Type 0) (found rest all : List ℕ) → found ≡ [] → rest ≡ all
    → IsStrictlyIncreasing all → ((q : ℕ) → Contains all q ↔ There q) → ((q : ℕ) → Moves q → There q)
    → IsFound Moves found rest
none_found Moves There found rest all none is rising are there = record {
  rises = subst (λ xs. IsStrictlySortedBy nat_cmp (xs ++ rest)) (sym none)
      (subst (IsStrictlySortedBy nat_cmp) (sym is) (sorted_from_strictly_increasing all rising));
  moving = λ q c. absurd (nobody q (subst (λ xs. Contains xs q) none c));
  all = λ q m. inr (subst (λ xs. Contains xs q) (sym is) ((are q).1 (there q m)));
}
  where
    nobody : (q : ℕ) → Contains [] q → ⊥
    nobody q (k, l, e) = omega (arith, l)
