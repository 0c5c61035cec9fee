-- What the calls of a step mean for the words and the sleepers of the definition.
use Rattle.std.proofs.Common.{◌≡◌, ◌≢◌, ℕ, ◌<◌, ◌≤◌, ◌||◌, true, false, cond, eqb, List, length, take, drop, min, set}
use Rattle.std.proofs.Common.{refl, sym, ap, ◌∙◌, arith, inl, inr}
use Rattle.std.proofs.Math.Path.{fun_ext}
use Rattle.std.proofs.lemmas.Bool.{cases_eq, cases_lt, eq-eqb, ne_eqb, le-leb}
use Rattle.std.proofs.lemmas.List.{get_or-set_same, get_or-set_other, take_min, length-take}
use Rattle.words.specs.LockWord.{lock_word, owner_of, waiters_of}
use Rattle.buckets.specs.Sleepers.{Sleepers, queue, place_of}
use Rattle.buckets.proofs.Moves.{drop-take_length}
use Rattle.futexcalls.specs.FutexCalls.{Wakes}
use Rattle.futexcalls.specs.Answers.{word_of}
use Rattle.robustexit.specs.declared.phase.ExitPhase.TheVariants.{Entry, Pending}
use Rattle.robustexit.specs.Phases.{next_entry}
use Rattle.robustexit.specs.RobustExit.{put, Abandons}
use Rattle.robustexit.specs.Fronts.{shared_view, TakesFront}

pub word_of-set : (words : List ℕ) (a v : ℕ) → a < length words → word_of (set words a v) ≡ put (word_of words) a v
word_of-set words a v l = fun_ext (λ b. elim (cases_eq b a) [
  | inl e ↦ rw (e, get_or-set_same words a v 0 l, eq-eqb a a refl) refl
  | inr ne ↦ rw (get_or-set_other words a b v 0 ne, ne_eqb b a ne) refl
])

pub abandons : (t l : ℕ) (words words' : List ℕ) (s s' : Sleepers) (woken : List ℕ) → l < length words → owner_of
    (word_of words l) ≡ t → words' ≡ set words l (lock_word 0 true (waiters_of (word_of words l))) → Wakes
    (place_of s) l (cond (waiters_of (word_of words l)) 1 0) woken (place_of s') → Abandons t l (shared_view words s)
    woken (shared_view words' s')
abandons t l words words' s s' woken inside owned marks wakes = record {
  owned = owned;
  marks = ap word_of marks ∙ word_of-set words l _ inside;
  wakes = wakes;
}

take-take_length : (n : ℕ) (xs : List ℕ) → take n xs ≡ take (length (take n xs)) xs
take-take_length n xs = sym (take_min n xs) ∙ ap (λ k. take k xs) (sym (length-take n xs))

-- the first n of a list, as many as there are
pub takes-front : (s s' : Sleepers) (a n : ℕ) (woken : List ℕ) → woken ≡ take n (queue s a) → queue s' a ≡ drop n
    (queue s a) → ((b : ℕ) → b ≢ a → queue s' b ≡ queue s b) → TakesFront s s' a woken
takes-front s s' a n woken front rest others = record {
  front = front ∙ take-take_length n (queue s a) ∙ ap (λ x. take (length x) (queue s a)) (sym front);
  rest = rest ∙ drop-take_length n (queue s a) ∙ ap (λ x. drop (length x) (queue s a)) (sym front);
  others = others;
}

-- past 2,048 entries the count doesn't matter
past-pending : (e seen : ℕ) → 2048 ≤ seen → next_entry e seen ≡ Pending
past-pending e seen h = rw (le-leb 2048 seen h) (elim (eqb e 0) as (λ b. cond (b || true) Pending
    (Entry (record { 0 = e }) seen) ≡ Pending) [ true ↦ refl | false ↦ refl ])

pub next_entry-past : (e seen most : ℕ) → 2048 ≤ most → next_entry e (min seen most) ≡ next_entry e seen
next_entry-past e seen most h = elim (cases_lt most seen) [
  | inl l ↦ past-pending e (min seen most) (omega arith) ∙ sym (past-pending e seen (omega arith))
  | inr p ↦ ap (next_entry e) (omega arith)
]
