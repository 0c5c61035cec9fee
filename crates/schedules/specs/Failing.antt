-- What a run fails by.
use Rattle.std.specs.Prelude.{ℕ, ◌≡◌, ◌≤◌, ◌<◌, List, length, Option, Some, None}
use Rattle.words.specs.Process.{process_word}
use Rattle.words.specs.Outcomes.{outcome_of}
use Rattle.words.specs.declared.outcome.Cause.TheVariants.{Faulted}
use Rattle.words.specs.declared.outcome.Fault.{Fault}
use Rattle.words.specs.declared.outcome.Outcome.{Outcome}
use Rattle.words.specs.declared.outcome.Outcome.TheVariants as outcome
use Rattle.isa.specs.Programs.{Program}
use Rattle.machine.specs.States.{ConcreteState, state_of}
use Rattle.machine.specs.Views.{concrete}
use Rattle.runner.specs.Schedules.{IsFollowed}
use Rattle.runner.specs.declared.report.Report.{Report}
use Rattle.runner.specs.declared.report.Verdict.TheVariants as verdict
use Rattle.runner.specs.declared.schedule.Turn.{Turn}
use Rattle.schedules.specs.declared.failing.RunFailure.{RunFailure}
use Rattle.schedules.specs.declared.failing.RunFailure.TheVariants.{Stuck, Aborted}

-- the fault by which a thread with this outcome aborted; none where it was killed
abbrev pub fault_in : Outcome → Option Fault
fault_in (outcome.Aborted (Faulted fault)) = Some fault
fault_in _ = None

-- a thread that was made has aborted by this fault
pub record HasFaulted (k : ConcreteState) (t : ℕ) (fault : Fault) : Type 0 where
  pub some : 0 < t
  pub made : t ≤ length k.threads
  pub told : fault_in (outcome_of ((state_of k).word (process_word t 5))) ≡ Some fault

-- the thread of the failure has aborted by its fault
abbrev pub HasAborted : ConcreteState → RunFailure → Type 0
HasAborted k Stuck = ⊥
HasAborted k (Aborted t fault) = HasFaulted k t fault

-- the run of this report fails so: it is stuck, or a thread of it has aborted by this fault
abbrev pub FailsBy : Report → RunFailure → Type 0
FailsBy r Stuck = r.verdict ≡ verdict.Stuck
FailsBy r (Aborted t fault) = HasFaulted (concrete r.last.view) t fault

-- the program follows the schedule to its end, and that run fails so
pub record FailsOn (p : Program) (schedule : List Turn) (failure : RunFailure) : Type 0 where
  pub report : Report
  pub followed : IsFollowed p schedule report
  pub fails : FailsBy report failure
