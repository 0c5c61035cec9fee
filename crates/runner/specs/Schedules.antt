-- What comes of a schedule: a step of a thread, or a wake or a kill of it from outside, and an entry of the log, for
-- each of its turns.
use Rattle.std.specs.Prelude.{ℕ, ◌≡◌, ◌+◌, ◌<◌, ◌≤◌, ◌^◌, ◌⊎◌, true, false, List, length, map, take, slice_get}
use Rattle.std.specs.Prelude.{Option, Some, None, Err}
use Rattle.std.specs.List.{All}
use Rattle.isa.specs.Programs.{Program}
use Rattle.machine.specs.declared.event.Entry.{Entry}
use Rattle.machine.specs.declared.event.Event.{Event}
use Rattle.machine.specs.FrontRuns.{doing_of}
use Rattle.machine.specs.Runs.{Doing, Own, Strayed, Killed}
use Rattle.machine.specs.declared.event.StepFault.TheVariants as step
use Rattle.machine.specs.States.{state_of}
use Rattle.machine.specs.ConcreteSteps.{can_move}
use Rattle.machine.specs.Views.{concrete}
use Rattle.piece_machine.specs.PieceConcrete.{PieceConcrete, can_take, piece_of}
use Rattle.piece_machine.specs.PieceViews.{parts}
use Rattle.runner.specs.declared.report.Report.{Report}
use Rattle.runner.specs.declared.schedule.Turn.{Turn}
use Rattle.runner.specs.declared.schedule.Turn.TheVariants.{Step, Stray, Kill}
use Rattle.runner.specs.declared.schedule.ScheduleFault.{ScheduleFault}
use Rattle.runner.specs.declared.schedule.ScheduleFault.TheVariants.{BadEntry, Broken, Memory}
use Rattle.runner.specs.Logs.{Runs, event_cost, opening}
use Rattle.runner.specs.Reports.{IsVerdict}

-- one local step, or one shared step
abbrev pub IsOneStep : Entry → Type 0
IsOneStep e = e.local + event_cost e.event ≡ 1

-- the turn of a thread by what the step was
abbrev pub turn_by : Doing → ℕ → Turn
turn_by Own t = Step t
turn_by (Strayed a) t = Stray t
turn_by (Killed begins) t = Kill t

abbrev pub turn_by_event : Option Event → ℕ → Turn
turn_by_event None t = Step t
turn_by_event (Some event) t = turn_by (doing_of event.name event.value) t

-- the turn that an entry was: a step of its thread, or a wake or a kill of it from outside
abbrev pub turn_of : Entry → Turn
turn_of e = turn_by_event e.event e.thread

-- the log is legal and leads there, by one step for each turn, in this order
pub record Follows (p : Program) (schedule : List Turn) (log : List Entry) (k : PieceConcrete) : Type 0 where
  pub legal : Runs p (opening p) log k
  pub turns : map turn_of log ≡ schedule
  pub single : All IsOneStep log

-- the report of a schedule that was followed to its end
pub record IsFollowed (p : Program) (schedule : List Turn) (r : Report) : Type 0 where
  pub follows : Follows p schedule r.log.items (parts r.last)
  pub few : length schedule < 2 ^ 32
  pub program : r.last.view.program ≡ p
  pub output : r.output.items ≡ (concrete r.last.view).common.output
  pub verdict : IsVerdict (concrete r.last.view) r.verdict

-- the turns before this many and one lead there, and this is the next one
pub record ComesTo (p : Program) (schedule : List Turn) (before : ℕ) (k : PieceConcrete) (turn : Turn) : Type 0 where
  pub log : List Entry
  pub follows : Follows p (take before schedule) log k
  pub few : before < 2 ^ 32
  pub names : slice_get schedule before ≡ Some turn

-- there is no such turn there: its thread can't move, or a held bucket is in its way; or it doesn't sleep, or was never made
abbrev pub RefusesTurn : Program → PieceConcrete → Turn → Type 0
RefusesTurn p k (Step t) = can_take p k t ≡ false
RefusesTurn p k (Stray t) = (state_of k.concrete).asleep t ≡ None
RefusesTurn p k (Kill t) = (state_of k.concrete).thread t ≡ None

-- the turn's step may not be
abbrev pub BreaksTurn : Program → PieceConcrete → Turn → Type 0
BreaksTurn p k (Step t) = (can_move k.concrete t ≡ true) × (piece_of p k t ≡ Err step.Broken)
BreaksTurn p k (Stray t) = ⊥
BreaksTurn p k (Kill t) = ⊥

-- why the turn of a number is refused
abbrev pub RefusesSchedule : Program → PieceConcrete → ℕ → Turn → ScheduleFault → Type 0
RefusesSchedule p k number turn (BadEntry n) = (n ≡ number) × (RefusesTurn p k turn ⊎ (2 ^ 32 ≤ number))
RefusesSchedule p k number turn (Broken n) = (n ≡ number) × (number < 2 ^ 32) × BreaksTurn p k turn
RefusesSchedule p k number turn Memory = Unit {0}

-- the fault is want of memory
abbrev pub IsMemory : ScheduleFault → Type 0
IsMemory (BadEntry n) = ⊥
IsMemory (Broken n) = ⊥
IsMemory Memory = Unit {0}

-- why a schedule isn't followed to its end: want of memory, or its first turn that is refused; they count from 1
abbrev pub FailsAt : Program → List Turn → ScheduleFault → Type 0
FailsAt p schedule fault =
    IsMemory fault ⊎ ((before : ℕ) × (k : PieceConcrete) × (turn : Turn) × ComesTo p schedule before k turn
    × RefusesSchedule p k (before + 1) turn fault)
