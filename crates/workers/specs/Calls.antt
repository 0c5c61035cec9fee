-- Which workers were called, and whether the calling thread was, which starts workers.
use Rattle.std.specs.Prelude.{ℕ, ◌≡◌, ◌||◌, Bool, true, false}
use Rattle.machine.specs.declared.thread_set.ThreadSet.{ThreadSet}
use Rattle.machine.specs.ThreadSets.{IsThread, has}
use Rattle.workers.specs.declared.bucket_waiters.BucketWaiters.{BucketWaiters}
use Rattle.workers.specs.declared.parker.Called.{Called}
use Rattle.workers.specs.BucketWaiters.{IsWhole, nobody, waits, with_waiter}

-- nobody
abbrev pub nobody_called : Called
nobody_called = record { workers = nobody; starter = false }

-- that of thread t too
abbrev pub with_called : Called → ℕ → Called
with_called called t = record called { workers = with_waiter called.workers t }

-- the calling thread too
abbrev pub with_starter : Called → Called
with_starter called = record called { starter = true }

-- whether that of thread t was
abbrev pub was_called : Called → ℕ → Bool
was_called called t = waits called.workers t

-- those of the threads of a set, and whoever was called before
pub record AreCalledToo (threads : ThreadSet) (old new : Called) : Type 0 where
  pub each : (t : ℕ) → IsThread t → has threads t ≡ true → was_called new t ≡ true
  pub kept : (t : ℕ) → IsThread t → was_called old t ≡ true → was_called new t ≡ true
  pub whole : IsWhole new.workers
  pub starter : new.starter ≡ old.starter

-- those of the threads that an entry woke
abbrev pub AreCalled : ThreadSet → Called → Type 0
AreCalled woken called = (t : ℕ) → IsThread t → has woken t ≡ true → was_called called t ≡ true

-- all
pub record AreAllCalled (called : Called) : Type 0 where
  pub each : (t : ℕ) → IsThread t → was_called called t ≡ true
  pub starter : called.starter ≡ true

-- whom an entry concerns: those whose threads it woke, those who waited until a bucket was given up, and the calling thread
-- where it made a thread
pub record AreTold (woken : ThreadSet) (freed : BucketWaiters) (forked : Bool) (called : Called) : Type 0 where
  pub each : (t : ℕ) → IsThread t → (has woken t || waits freed t) ≡ true → was_called called t ≡ true
  pub starter : forked ≡ true → called.starter ≡ true
