-- What lies under the lock of a run with several workers.
use Rattle.std.specs.Prelude.{ℕ, ◌≡◌, ◌≤◌, ◌+◌, ◌&&◌, length, Bool, not, Option, Some, None}
use Rattle.words.specs.Limits.{most_threads}
use Rattle.isa.specs.Programs.{Program}
use Rattle.machine.specs.States.{ConcreteState}
use Rattle.machine.specs.ConcreteSteps.{can_move}
use Rattle.runner.specs.declared.fault.RunFault.{RunFault}
use Rattle.runner.specs.Views.{SharedView, ShareView, log_state}
use Rattle.runner.specs.Logs.{Outside}
use Rattle.runner.specs.Reports.{CanFail}
use Rattle.workers.specs.declared.bucket_waiters.BucketWaiters.{BucketWaiters}
use Rattle.workers.specs.BucketWaiters.{waits}

-- the run, why it ends before its time, how many workers were started, what the calling thread counted, whose workers
-- wait for a bucket, whose waited for one and weren't called since it was given up, and whose entry was refused with Limit
pub record SharedRunView : Type 0 where
  pub shared : SharedView
  pub fault : Option RunFault
  pub started : ℕ
  pub kept : ShareView
  pub waiting : BucketWaiters
  pub freed : BucketWaiters
  pub refused : BucketWaiters

-- where the log leads, but for the phases of the threads
abbrev pub state_of : SharedRunView → ConcreteState
state_of d = (log_state d.shared).concrete.concrete

-- whether thread t can move, and its worker doesn't wait for a bucket
abbrev pub is_able : SharedRunView → ℕ → Bool
is_able d t = can_move (state_of d) t && not (waits d.waiting t)

-- a fault has its cause
abbrev pub HasCause : Program → Outside → ℕ → Option RunFault → Type 0
HasCause p may limit None = Unit {0}
HasCause p may limit (Some fault) = CanFail p may limit fault

-- a fault has its cause, and each worker has one part of the count, as the calling thread has
pub record IsSharedRun (p : Program) (may : Outside) (limit given started : ℕ) (fault : Option RunFault) : Type 0 where
  pub cause : HasCause p may limit fault
  pub parts : given ≡ started + 1
  pub few : started ≤ most_threads

-- what the workers have, and what the calling thread counted, stays as it was
pub record KeepsWorkers (old new : SharedRunView) : Type 0 where
  pub given : new.shared.given ≡ old.shared.given
  pub started : new.started ≡ old.started
  pub kept : new.kept ≡ old.kept

-- the next thread gets a worker, with one part of the count, which has counted nothing
pub record StartsWorker (old : SharedRunView) (t : ℕ) (share : ShareView) (new : SharedRunView) : Type 0 where
  pub goes_on : old.fault ≡ None
  pub next : t ≡ old.started + 1
  pub made : t ≤ length (state_of old).threads
  pub part : share ≡ record { parts = 1; count = 0 }
  pub after : new ≡ record old { started = t; shared = record old.shared { given = old.shared.given + 1 } }
