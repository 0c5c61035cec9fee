-- Which threads have got a worker.
use Rattle.std.specs.Prelude.{ℕ, ◌≡◌, ◌≤◌, ◌||◌, true, false}
use Rattle.workers.specs.declared.hiring.Hiring.{Hiring}
use Rattle.workers.specs.BucketWaiters.{IsWhole, nobody, waits, with_waiter}

-- none was asked for
abbrev pub nobody_hired : Hiring
nobody_hired = record { asked = nobody; started = nobody; failed = nobody; is_over = false }

-- one was asked for thread t
abbrev pub asking_for : Hiring → ℕ → Hiring
asking_for hiring t = record hiring { asked = with_waiter hiring.asked t }

-- no more are asked for
abbrev pub asked_all : Hiring → Hiring
asked_all hiring = record hiring { is_over = true }

-- that of thread t was started
abbrev pub with_started : Hiring → ℕ → Hiring
with_started hiring t = record hiring { started = with_waiter hiring.started t }

-- that of thread t couldn't be started, and the run was ended
abbrev pub with_failed : Hiring → ℕ → Hiring
with_failed hiring t = record hiring { failed = with_waiter hiring.failed t }

-- each that was asked for was started, or it couldn't be
abbrev pub HasEach : Hiring → Type 0
HasEach hiring = (t : ℕ) → 1 ≤ t → waits hiring.asked t ≡ (waits hiring.started t || waits hiring.failed t)

-- they are whole
pub record AreWhole (hiring : Hiring) : Type 0 where
  pub asked : IsWhole hiring.asked
  pub started : IsWhole hiring.started
  pub failed : IsWhole hiring.failed

-- so it is, and no more are asked for
pub record IsDone (hiring : Hiring) : Type 0 where
  pub each : HasEach hiring
  pub over : hiring.is_over ≡ true
