-- What the report of a run says.
use Rattle.std.specs.Prelude.{ℕ, ◌≡◌, ◌≤◌, ◌<◌, ◌+◌, ◌⊎◌, true, false, List, length, Option, Some, None, Ok, Err}
use Rattle.words.specs.Limits.{most_local_steps}
use Rattle.isa.specs.Programs.{Program}
use Rattle.locals.specs.Threads.{Thread}
use Rattle.locals.specs.Steps.{local_step, local_after}
use Rattle.machine.specs.declared.event.Entry.{Entry}
use Rattle.machine.specs.declared.event.Event.{Event}
use Rattle.machine.specs.declared.event.StepFault.TheVariants as step
use Rattle.machine.specs.States.{ConcreteState, thread_of}
use Rattle.machine.specs.Runs.{has_ended}
use Rattle.machine.specs.ConcreteSteps.{can_move}
use Rattle.machine.specs.Views.{IsQuiet, AllEnded, concrete}
use Rattle.piece_machine.specs.PieceConcrete.{PieceConcrete}
use Rattle.piece_machine.specs.PieceViews.{parts}
use Rattle.runner.specs.declared.fault.RunFault.{RunFault}
use Rattle.runner.specs.declared.fault.RunFault.TheVariants.{Stray, CannotMove, Broken, Memory}
use Rattle.runner.specs.declared.fault.RunFault.TheVariants.{Limit as Limit'}
use Rattle.runner.specs.declared.report.Verdict.{Verdict}
use Rattle.runner.specs.declared.report.Verdict.TheVariants.{Done, Stuck, Limit}
use Rattle.runner.specs.declared.report.Report.{Report}
use Rattle.runner.specs.Logs.{HasOnly, Outside, Runs, cost, event_cost, opening}
use Rattle.runner.specs.Entries.{entry_end}

-- the next entry of a thread: its local steps until another step comes or its turn is over, and then the shared step
-- that it stands before, if any
pub record IsNextEntry (p : Program) (k : PieceConcrete) (t count : ℕ) (event : Option Event) : Type 0 where
  pub origin : Thread
  pub here : Thread
  pub concrete : PieceConcrete
  pub stands : thread_of k.concrete t ≡ Some origin
  pub goes : local_after p t count origin ≡ Some here
  pub turn : count ≤ most_local_steps
  pub whole : count < most_local_steps → local_step p t here ≡ None
  pub gives : entry_end p k t here ≡ Ok (concrete, event)

-- the next entry of a thread would pass the limit
pub record PassesLimit (p : Program) (limit : ℕ) (log : List Entry) (k : PieceConcrete) (t : ℕ) : Type 0 where
  pub count : ℕ
  pub event : Option Event
  pub entry : IsNextEntry p k t count event
  pub past : limit < cost log + (count + event_cost event)

-- the next entry of a thread that can move can't be made yet: a held bucket is in the way of the step that its local steps
-- lead to
pub record IsHeldUp (p : Program) (k : PieceConcrete) (t : ℕ) : Type 0 where
  pub count : ℕ
  pub origin : Thread
  pub here : Thread
  pub moves : can_move k.concrete t ≡ true
  pub stands : thread_of k.concrete t ≡ Some origin
  pub goes : local_after p t count origin ≡ Some here
  pub turn : count ≤ most_local_steps
  pub whole : count < most_local_steps → local_step p t here ≡ None
  pub waits : entry_end p k t here ≡ Err step.CannotMove

-- a thread can't make its next entry: that would pass the limit, or a held bucket is in its way
abbrev pub IsStopped : Program → ℕ → List Entry → PieceConcrete → ℕ → Type 0
IsStopped p limit log k t = PassesLimit p limit log k t ⊎ IsHeldUp p k t

-- all threads have ended; not all have, and none can move; or one can move
abbrev pub IsVerdict : ConcreteState → Verdict → Type 0
IsVerdict k Done = AllEnded k
IsVerdict k Stuck =
    IsQuiet k × (t : ℕ) × (0 < t) × (t ≤ length k.threads) × (has_ended (thread_of k t) ≡ false)
IsVerdict k Limit = (t : ℕ) × (can_move k t ≡ true)

-- the log is legal for the program and within the limit, with no more from outside than may be in the run, the machine is where it leads, the output is the machine's, the verdict holds, and no
-- thread can make its next entry; where that is for the limit, there is one whose next entry would pass it
pub record IsReport (p : Program) (may : Outside) (limit : ℕ) (r : Report) : Type 0 where
  pub legal : Runs p (opening p) r.log.items (parts r.last)
  pub own : HasOnly may r.log.items
  pub program : r.last.view.program ≡ p
  pub within : cost r.log.items ≤ limit
  pub output : r.output.items ≡ (concrete r.last.view).common.output
  pub verdict : IsVerdict (concrete r.last.view) r.verdict
  pub over : (t : ℕ) → can_move (concrete r.last.view) t ≡ true → IsStopped p limit r.log.items (parts r.last) t
  pub limited : r.verdict ≡ Limit
      → (t : ℕ) × (can_move (concrete r.last.view) t ≡ true) × PassesLimit p limit r.log.items (parts r.last) t

-- some legal log within the limit, with no more from outside than may be in the run, leads to where a thread comes, within a turn of local steps, to a step that may not be
pub record MeetsBroken (p : Program) (may : Outside) (limit : ℕ) : Type 0 where
  pub log : List Entry
  pub concrete : PieceConcrete
  pub legal : Runs p (opening p) log concrete
  pub own : HasOnly may log
  pub within : cost log ≤ limit
  pub thread : ℕ
  pub origin : Thread
  pub here : Thread
  pub count : ℕ
  pub stands : thread_of concrete.concrete thread ≡ Some origin
  pub moves : can_move concrete.concrete thread ≡ true
  pub goes : local_after p thread count origin ≡ Some here
  pub turn : count ≤ most_local_steps
  pub breaks : entry_end p concrete thread here ≡ Err step.Broken

-- what a run may be refused for
abbrev pub CanFail : Program → Outside → ℕ → RunFault → Type 0
CanFail p may limit Memory = Unit {0}
CanFail p may limit Broken = MeetsBroken p may limit
CanFail p may limit Stray = ⊥
CanFail p may limit CannotMove = ⊥
CanFail p may limit Limit' = ⊥
