-- What is looked for in a packed state, thread by thread.
use Rattle.std.specs.Prelude.{ℕ, ◌≡◌, false, Some, None}
use Rattle.words.specs.declared.outcome.Cause.TheVariants.{Faulted}
use Rattle.words.specs.declared.outcome.Fault.{Fault}
use Rattle.isa.specs.Programs.{Program}
use Rattle.robustexit.specs.declared.phase.ExitPhase.TheVariants.{Ended}
use Rattle.locals.specs.Threads.{Thread, Dies, Exits}
use Rattle.locals.specs.Looks.{look}
use Rattle.machine.specs.Runs.{has_ended}
use Rattle.machine.specs.States.{State}
use Rattle.proof_image_search.specs.Searching.{IsExitWord, Uses}

-- the thread was made, and has not ended
pub record IsLive (s : State) (t : ℕ) : Type 0 where
  pub thread : Thread
  pub stands : s.thread t ≡ Some thread
  pub goes_on : has_ended (Some thread) ≡ false

-- a thread is dying of a fault
abbrev pub IsFailing : Thread → Type 0
IsFailing x = (fault : Fault) × (x ≡ Dies (Faulted fault))

-- no thread that has ended used this word in the rest of its exit
abbrev pub IsSpared : State → ℕ → Type 0
IsSpared s a = (t : ℕ) → s.thread t ≡ Some (Exits Ended) → IsExitWord t a → ⊥

-- the next step of thread u, should it be awake, uses none
abbrev pub IsApartAt : Program → State → ℕ → Type 0
IsApartAt p s u = (x : Thread) → s.thread u ≡ Some x → s.asleep u ≡ None → (a : ℕ) → Uses s u (look p u x) a
    → IsSpared s a

-- the thread of this number is
abbrev pub IsFailingAt : State → ℕ → Type 0
IsFailingAt s t = (fault : Fault) × (s.thread t ≡ Some (Dies (Faulted fault)))
