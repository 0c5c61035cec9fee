-- Who was called, and who was hired.
use Rattle.std.proofs.Common.{◌≡◌, ◌∙◌, ◌⊎◌, ℕ, ◌≤◌, Bool, true, false, ◌||◌, eqb, refl, ap, sym, inl, inr}
use Rattle.std.proofs.lemmas.Bool.{eq-eqb}
use Rattle.machine.specs.ThreadSets.{IsThread}
use Rattle.workers.specs.declared.parker.Called.{Called}
use Rattle.workers.specs.declared.hiring.Hiring.{Hiring}
use Rattle.workers.specs.BucketWaiters.{IsWhole, waits}
use Rattle.workers.specs.Calls.{was_called, with_called}
use Rattle.workers.specs.Hirings.{AreWhole, HasEach, asking_for, with_started, with_failed}
use Rattle.workers.proofs.Waiting.{waiters_so}

or_true : (a b : Bool) → b ≡ true → (a || b) ≡ true
or_true true b h = refl
or_true false b h = h

-- who is called now, or was before
pub called_too : (called : Called) (t u : ℕ) → IsWhole called.workers → IsThread t → 1 ≤ u
    → (u ≡ t) ⊎ (was_called called u ≡ true) → was_called (with_called called t) u ≡ true
called_too called t u long is le (inl same) =
    waiters_so.added called.workers t u long is le ∙ ap (λ b. b || was_called called u) (eq-eqb u t same)
called_too called t u long is le (inr was) =
    waiters_so.added called.workers t u long is le ∙ or_true (eqb u t) (was_called called u) was

or_assoc : (a b c : Bool) → (a || (b || c)) ≡ ((a || b) || c)
or_assoc true b c = refl
or_assoc false b c = refl

or_within : (a b c : Bool) → (a || (b || c)) ≡ (b || (a || c))
or_within true true c = refl
or_within true false c = refl
or_within false b c = refl

-- one more was asked for, and was started, or couldn't be
pub started_too : (hiring : Hiring) (t : ℕ) → IsWhole hiring.asked → IsWhole hiring.started
    → IsThread t → HasEach hiring → HasEach (with_started (asking_for hiring t) t)
started_too hiring t long_a long_s is each = λ u le.
    waiters_so.added hiring.asked t u long_a is le ∙ (ap (λ b. eqb u t || b) (each u le)
    ∙ (or_assoc (eqb u t) (waits hiring.started u) (waits hiring.failed u)
    ∙ ap (λ b. b || waits hiring.failed u) (sym (waiters_so.added hiring.started t u long_s is le))))

pub failed_too : (hiring : Hiring) (t : ℕ) → IsWhole hiring.asked → IsWhole hiring.failed
    → IsThread t → HasEach hiring → HasEach (with_failed (asking_for hiring t) t)
failed_too hiring t long_a long_f is each = λ u le.
    waiters_so.added hiring.asked t u long_a is le ∙ (ap (λ b. eqb u t || b) (each u le)
    ∙ (or_within (eqb u t) (waits hiring.started u) (waits hiring.failed u)
    ∙ ap (λ b. waits hiring.started u || b) (sym (waiters_so.added hiring.failed t u long_f is le))))

pub started_whole : (hiring : Hiring) (t : ℕ) → AreWhole hiring → AreWhole (with_started (asking_for hiring t) t)
started_whole hiring t whole = record {
  asked = waiters_so.whole hiring.asked t whole.asked;
  started = waiters_so.whole hiring.started t whole.started;
  failed = whole.failed;
}

pub failed_whole : (hiring : Hiring) (t : ℕ) → AreWhole hiring → AreWhole (with_failed (asking_for hiring t) t)
failed_whole hiring t whole = record {
  asked = waiters_so.whole hiring.asked t whole.asked;
  started = whole.started;
  failed = waiters_so.whole hiring.failed t whole.failed;
}

pub called_whole : (called : Called) (t : ℕ) → IsWhole called.workers → IsWhole (with_called called t).workers
called_whole called t whole = waiters_so.whole called.workers t whole
