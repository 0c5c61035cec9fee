-- Who sleeps, and who sleeps or has committed to.
use Rattle.std.proofs.Common.{◌≡◌, ◌≢◌, ◌∙◌, ℕ, ◌<◌, Option, Some, None, List, length, refl, sym, ap, Bool, true, false}
use Rattle.std.proofs.Common.{[], subst, inl, inr}
use Rattle.std.proofs.lemmas.Bool.{cases_eq}
use Rattle.std.specs.Prelude.{if◌then◌else◌}
use Rattle.std.proofs.Math.Path.{fun_ext}
use Rattle.buckets.specs.Places.{names, with_place}
use Rattle.futexcalls.specs.FutexCalls.{IsChoice, Wakes}
use Rattle.futexcalls.specs.Pieces.{RequeuesCompared}
use Rattle.proof_pieces.specs.Whole.{either}

abbrev pub joined : (ℕ → Option ℕ) → (ℕ → Option ℕ) → ℕ → Option ℕ
joined z c u = either (z u) (c u)

either_none : (o : Option ℕ) → either o None ≡ o
either_none (Some a) = refl
either_none None = refl

-- who gets a place has committed to none
pub place_both : (z c : ℕ → Option ℕ) (xs : List ℕ) (place : Option ℕ) → ((u : ℕ) → names xs u ≡ true → c u ≡ None)
    → joined (with_place z xs place) c ≡ with_place (joined z c) xs place
place_both z c xs place free = fun_ext (λ u. by_test u (names xs u) refl)
  where
    by_test : (u : ℕ) (b : Bool) → names xs u ≡ b
        → either (if b then place else z u) (c u) ≡ (if b then place else either (z u) (c u))
    by_test u true q = ap (either place) (free u q) ∙ either_none place
    by_test u false q = refl

-- nobody has committed on a: its sleepers are the same
pub sleepers_same : (z c : ℕ → Option ℕ) (a : ℕ) → ((u : ℕ) → c u ≢ Some a) → (u : ℕ) → joined z c u ≡ Some a
    → z u ≡ Some a
sleepers_same z c a nobody u h = by_place (z u) h
  where
    by_place : (o : Option ℕ) → either o (c u) ≡ Some a → o ≡ Some a
    by_place (Some b) h = h
    by_place None h = absurd (nobody u h)

pub choice_both : (z c : ℕ → Option ℕ) (a n : ℕ) (xs : List ℕ) → (length xs < n → (u : ℕ) → c u ≢ Some a)
    → IsChoice z a n xs → IsChoice (joined z c) a n xs
choice_both z c a n xs nobody h = record {
  distinct = h.distinct;
  slept = λ t q. ap (λ o. either o (c t)) (h.slept t q);
  few = h.few;
  all = λ less t q. h.all less t (sleepers_same z c a (nobody less) t q);
}

pub wakes_both : (z c : ℕ → Option ℕ) (a n : ℕ) (xs : List ℕ) (after : ℕ → Option ℕ)
    → ((u b : ℕ) → z u ≡ Some b → c u ≡ None) → (length xs < n → (u : ℕ) → c u ≢ Some a) → Wakes z a n xs after
    → Wakes (joined z c) a n xs (joined after c)
wakes_both z c a n xs after apart nobody h = record {
  choice = choice_both z c a n xs nobody h.choice;
  awake = ap (λ y. joined y c) h.awake ∙ place_both z c xs None (λ u q. apart u a (h.choice.slept u q));
}

pub requeued_both : (z c : ℕ → Option ℕ) (a b n m : ℕ) (woken moved : List ℕ) (after : ℕ → Option ℕ)
    → ((u d : ℕ) → z u ≡ Some d → c u ≡ None) → ((u : ℕ) → c u ≢ Some a) → RequeuesCompared z a b n m woken moved after
    → RequeuesCompared (joined z c) a b n m woken moved (joined after c)
requeued_both z c a b n m woken moved after apart nobody h = record {
  wakes = record {
    choice = choice_both z c a n woken (λ l. nobody) h.wakes.choice;
    awake = refl;
  };
  moves = record {
    choice = λ ne. subst (λ f. IsChoice f a m moved) (place_both z c woken None
        (λ u q. apart u a (h.wakes.choice.slept u q)))
        (choice_both (with_place z woken None) c a m moved (λ l. nobody) (h.moves.choice ne));
    none = h.moves.none;
    goes = ap (λ y. joined y c) h.moves.goes
        ∙ place_both (with_place z woken None) c moved (Some b) free
        ∙ ap (λ f. with_place f moved (Some b)) (place_both z c woken None
        (λ u q. apart u a (h.wakes.choice.slept u q)));
  };
}
  where
    slept_before : (u : ℕ) (q : Bool) → (if q then None else z u) ≡ Some a → z u ≡ Some a
    slept_before u true e = absurd cc
    slept_before u false e = e

    free : (u : ℕ) → names moved u ≡ true → c u ≡ None
    free u q = elim (cases_eq a b) [
      | inl e ↦ absurd (let none : names [] u ≡ true = ap (λ xs. names xs u) (sym (h.moves.none e)) ∙ q in cc)
      | inr ne ↦ apart u a (slept_before u (names woken u) ((h.moves.choice ne).slept u q))
    ]
