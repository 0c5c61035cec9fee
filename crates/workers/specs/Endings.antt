-- When a worker makes no entry any more.
use Rattle.std.specs.Prelude.{ℕ, ◌≡◌, ◌⊎◌, ◌||◌, true, is_some}
use Rattle.isa.specs.Programs.{Program}
use Rattle.machine.specs.ConcreteSteps.{can_move}
use Rattle.machine.specs.Runs.{has_ended}
use Rattle.machine.specs.States.{thread_of}
use Rattle.runner.specs.Reports.{PassesLimit}
use Rattle.runner.specs.Views.{log_state}
use Rattle.workers.specs.BucketWaiters.{waits}
use Rattle.workers.specs.SharedRuns.{SharedRunView, state_of}

-- no worker is left to make an entry: the run ends before its time, or that of each thread that can move was refused with
-- Limit, or waits for a bucket
abbrev pub IsOver : SharedRunView → Type 0
IsOver d = (is_some d.fault ≡ true)
    ⊎ ((t : ℕ) → can_move (state_of d) t ≡ true → (waits d.waiting t || waits d.refused t) ≡ true)

-- that of a thread has ended, by the run as it was then
pub record EndedView : Type 0 where
  pub thread : ℕ
  pub run : SharedRunView

-- why that of thread t makes none: the thread has ended, its next entry would pass the limit, or no worker is left
abbrev pub HasEnded : Program → ℕ → SharedRunView → ℕ → Type 0
HasEnded p limit d t = (has_ended (thread_of (state_of d) t) ≡ true)
    ⊎ (PassesLimit p limit d.shared.log (log_state d.shared).concrete t ⊎ IsOver d)
