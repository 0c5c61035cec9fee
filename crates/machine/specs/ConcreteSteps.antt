-- The machine's own step of a thread, which is determined.
use Rattle.std.specs.Prelude.{ℕ, ◌-◌, ◌++◌, ◌||◌, [], ◌∷◌, List, length, Bool, false, not, is_some}
use Rattle.std.specs.Prelude.{slice_set, Option, Some, None, Result, Ok, Err}
use Rattle.isa.specs.Programs.{Program}
use Rattle.locals.specs.Threads.{Thread, Exits}
use Rattle.locals.specs.Looks.{Look, Goes, Asks, Leaves, Breaks, Rests, look}
use Rattle.robustexit.specs.declared.rule.ExitRule.{ExitRule}
use Rattle.robustexit.specs.ExitRules.{exit_of}
use Rattle.machine.specs.declared.event.Event.{Event}
use Rattle.machine.specs.declared.event.EventName.TheVariants as name
use Rattle.machine.specs.declared.event.StepFault.{StepFault}
use Rattle.machine.specs.declared.event.StepFault.TheVariants.{CannotMove, Broken}
use Rattle.machine.specs.States.{Common, ConcreteState, thread_of}
use Rattle.machine.specs.Runs.{has_ended}
use Rattle.machine.specs.ConcreteServing.{Served, plain, serve}
use Rattle.machine.specs.ConcreteExits.{leave}

-- what comes of a step of one thread: what is shared after it, the thread, the thread that it made, and the event
pub record Stepped : Type 0 where
  pub common : Common
  pub thread : Thread
  pub child : Option Thread
  pub event : Event

-- a thread goes on with the answer to its request
abbrev pub go_on_with : (ℕ → Thread) → Result Served StepFault → Result Stepped StepFault
go_on_with go (Ok r) = Ok (record { common = r.common; thread = go r.answer; child = r.child; event = r.event })
go_on_with go (Err fault) = Err fault

-- a step of one thread on what it touches, where exits are by this rule and so many threads were made
abbrev pub thread_step : ExitRule → ℕ → ℕ → Common → Look → Result Stepped StepFault
thread_step rule made t c (Goes x) = Ok (record { common = c; thread = x; child = None; event = plain name.Local 0 })
thread_step rule made t c (Asks request go) = go_on_with go (serve made t request c)
thread_step rule made t c (Leaves phase) =
    let r = leave rule t phase c in Ok (record { common = r.common; thread = Exits r.next; child = None; event = r.event })
thread_step rule made t c Breaks = Err Broken
thread_step rule made t c Rests = Err CannotMove

-- the threads, with the one that a step made, if it made one
abbrev pub with_new : List Thread → Option Thread → List Thread
with_new threads None = threads
with_new threads (Some child) = threads ++ child ∷ []

-- the machine behind a step of thread t, with the step's event
abbrev pub on_machine : ConcreteState → ℕ → Result Stepped StepFault → Result (ConcreteState × Event) StepFault
on_machine k t (Ok r) =
    Ok (record { common = r.common; threads = with_new (slice_set k.threads (t - 1) r.thread) r.child }, r.event)
on_machine k t (Err fault) = Err fault

-- a thread that sleeps can't move
abbrev pub step_awake : Program → ConcreteState → ℕ → Thread → Option ℕ → Result (ConcreteState × Event) StepFault
step_awake p k t x None = on_machine k t (thread_step (exit_of p.version) (length k.threads) t k.common (look p t x))
step_awake p k t x (Some a) = Err CannotMove

-- the step of thread t, if there is such a thread
abbrev pub step_thread : Program → ConcreteState → ℕ → Option Thread → Result (ConcreteState × Event) StepFault
step_thread p k t None = Err CannotMove
step_thread p k t (Some x) = step_awake p k t x (k.common.asleep t)

-- one step of a thread
abbrev pub step_of : Program → ConcreteState → ℕ → Result (ConcreteState × Event) StepFault
step_of p k t = step_thread p k t (thread_of k t)

-- a thread that was made can move unless it sleeps or has ended
abbrev pub thread_can_move : Option ℕ → Option Thread → Bool
thread_can_move place None = false
thread_can_move place (Some x) = not (is_some place || has_ended (Some x))

-- whether thread t can move
abbrev pub can_move : ConcreteState → ℕ → Bool
can_move k t = thread_can_move (k.common.asleep t) (thread_of k t)

-- the machine with thread t changed
abbrev pub put_thread : ConcreteState → ℕ → Thread → ConcreteState
put_thread k t x = record { common = k.common; threads = slice_set k.threads (t - 1) x }

-- why a step may not be, if it may not
abbrev pub fault_of : {A : Type 0} → Result A StepFault → Option StepFault
fault_of (Ok r) = None
fault_of (Err fault) = Some fault

-- what the step of a thread that is awake would be refused for after it went on to x
abbrev pub fault_at : Program → ConcreteState → ℕ → Thread → Option StepFault
fault_at p k t x = fault_of (thread_step (exit_of p.version) (length k.threads) t k.common (look p t x))
