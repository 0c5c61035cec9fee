-- What comes of a piece that is handed in.
use Rattle.std.specs.Prelude.{ℕ, List, ◌≡◌, ◌≢◌, ◌+◌, ◌++◌, ◌≤◌, ◌<◌, ◌⊎◌, [], ◌∷◌, Bool, true, false, Option, Some, None}
use Rattle.std.specs.Prelude.{Result, Ok, Err}
use Rattle.isa.specs.Programs.{Program}
use Rattle.locals.specs.Accesses.{accessing}
use Rattle.locals.specs.Looks.{look}
use Rattle.locals.specs.declared.access.Access.{Access}
use Rattle.locals.specs.Threads.{Thread}
use Rattle.locals.specs.Steps.{local_step, local_after}
use Rattle.machine.specs.declared.event.Entry.{Entry}
use Rattle.machine.specs.Accessing.{told_access}
use Rattle.machine.specs.declared.event.Event.{Event}
use Rattle.machine.specs.declared.event.StepFault.{StepFault}
use Rattle.machine.specs.declared.event.StepFault.TheVariants as step
use Rattle.machine.specs.States.{state_of, thread_of}
use Rattle.machine.specs.ConcreteSteps.{can_move}
use Rattle.piece_machine.specs.PieceConcrete.{PieceConcrete, piece_of, with_local, stray_piece, kill_piece}
use Rattle.runner.specs.declared.fault.RunFault.{RunFault}
use Rattle.runner.specs.declared.in_place.Behind.{Behind}
use Rattle.runner.specs.declared.in_place.Behind.TheVariants.{Nothing, Accessed, Stepped}
use Rattle.runner.specs.declared.in_place.Taken.{Taken}
use Rattle.runner.specs.declared.fault.RunFault.TheVariants.{Stray, Limit, CannotMove, Broken, Memory}
use Rattle.runner.specs.Views.{PieceView, LogState, SharedView, log_state}
use Rattle.runner.specs.Logs.{cost, event_cost}

-- the event of an entry, if it has a shared step
abbrev pub event_if : Bool → Event → Option Event
event_if true event = Some event
event_if false event = None

-- what comes behind the local steps of an entry that was made in its place, where the event of another step than an
-- access is this one
abbrev pub taken_event : Behind → Event → Option Event
taken_event Nothing event = None
taken_event (Accessed access) event = Some (told_access access)
taken_event Stepped event = Some event

-- the entry of thread t that was made so
abbrev pub taken_entry : ℕ → Taken → Event → Entry
taken_entry t taken event = record { thread = t; local = taken.local; event = taken_event taken.behind event }

-- a thread comes in at a place: a turn where it stands before a local step, and else its step with the event
abbrev pub entry_end_by : PieceConcrete → Result (PieceConcrete × Event) StepFault → Option Thread
    → Result (PieceConcrete × Option Event) StepFault
entry_end_by k step (Some x) = Ok (k, None)
entry_end_by k (Ok r) None = Ok (r.0, Some r.1)
entry_end_by k (Err fault) None = Err fault

-- where an entry ends, of a thread that has come to this state by its local steps
abbrev pub entry_end : Program → PieceConcrete → ℕ → Thread → Result (PieceConcrete × Option Event) StepFault
entry_end p k t here =
    let there = with_local k t here in entry_end_by there (piece_of p there t) (local_step p t here)

-- a thread came in at a place after so many local steps with a shared step, as one entry more of the log
pub record EntersAccess (p : Program) (k : PieceConcrete) (t : ℕ) (here : Thread) (count : ℕ) (log : List Entry)
    (k' : PieceConcrete) (log' : List Entry) : Type 0 where
  pub event : Event
  pub gives : entry_end p k t here ≡ Ok (k', Some event)
  pub grows : log' ≡ log ++ record { thread = t; local = count; event = Some event } ∷ []

-- a thread comes by so many local steps to a step that may not be
pub record BreaksAfter (p : Program) (k : PieceConcrete) (t count : ℕ) : Type 0 where
  pub origin : Thread
  pub here : Thread
  pub stands : thread_of k.concrete t ≡ Some origin
  pub goes : local_after p t count origin ≡ Some here
  pub breaks : entry_end p k t here ≡ Err step.Broken

-- the piece is the thread's, and began where the thread is
abbrev pub Stands : LogState → ℕ → PieceView → Type 0
Stands h t a = (a.thread ≡ t) × (thread_of h.concrete.concrete t ≡ Some a.origin)

-- the piece can come in, within the limit
pub record IsFine (p : Program) (limit : ℕ) (h : LogState) (t : ℕ) (a : PieceView) : Type 0 where
  pub stands : Stands h t a
  pub moves : can_move h.concrete.concrete t ≡ true
  pub concrete : PieceConcrete
  pub event : Option Event
  pub gives : entry_end p h.concrete t a.here ≡ Ok (concrete, event)
  pub within : cost h.log + (a.count + event_cost event) ≤ limit

-- the piece can't come in, or its next step is no access to a word of the memory
abbrev pub BringsNoAccess : Program → ℕ → SharedView → ℕ → PieceView → Type 0
BringsNoAccess p limit s t a =
    IsFine p limit (log_state s) t a → accessing (look p t a.here) s.machine.view.words ≡ None

-- a piece came in: exactly one entry is new, with the piece's count and what came of it
pub record Takes (p : Program) (limit : ℕ) (old : LogState) (t : ℕ) (a : PieceView) (new : LogState) : Type 0 where
  pub stands : Stands old t a
  pub moves : can_move old.concrete.concrete t ≡ true
  pub event : Option Event
  pub gives : entry_end p old.concrete t a.here ≡ Ok (new.concrete, event)
  pub log : new.log ≡ old.log ++ record { thread = t; local = a.count; event = event } ∷ []
  pub within : cost new.log ≤ limit

-- the causes of the refusals, in the order in which they are tested. A thread can't move where it sleeps or has ended, or
-- where a held bucket is in the way of its step
abbrev pub RefusesEntry : Program → ℕ → LogState → ℕ → PieceView → RunFault → Type 0
RefusesEntry p limit h t a Stray = Stands h t a → ⊥
RefusesEntry p limit h t a CannotMove =
    Stands h t a × ((can_move h.concrete.concrete t ≡ false) ⊎ (entry_end p h.concrete t a.here ≡ Err step.CannotMove))
RefusesEntry p limit h t a Broken =
    Stands h t a × (can_move h.concrete.concrete t ≡ true) × (entry_end p h.concrete t a.here ≡ Err step.Broken)
RefusesEntry p limit h t a Limit =
    Stands h t a × (can_move h.concrete.concrete t ≡ true)
    × (concrete : PieceConcrete) × (event : Option Event) × (entry_end p h.concrete t a.here ≡ Ok (concrete, event))
    × (limit < cost h.log + (a.count + event_cost event))
RefusesEntry p limit h t a Memory = IsFine p limit h t a

-- exactly one entry is new: an access of thread t after so many local steps
abbrev pub TellsAccess : List Entry → ℕ → ℕ → List Entry → Type 0
TellsAccess old t count new =
    (access : Access) × (new ≡ old ++ record { thread = t; local = count; event = Some (told_access access) } ∷ [])

-- thread t was woken from outside: exactly one entry is new, with no local step and the event of the wake
pub record TakesOutside (limit : ℕ) (old : LogState) (t : ℕ) (new : LogState) : Type 0 where
  pub event : Event
  pub gives : stray_piece old.concrete t ≡ Ok (new.concrete, event)
  pub log : new.log ≡ old.log ++ record { thread = t; local = 0; event = Some event } ∷ []
  pub within : cost new.log ≤ limit

-- why a wake from outside is refused: the thread doesn't sleep; the limit is reached; or there is no memory
abbrev pub RefusesOutside : ℕ → LogState → ℕ → RunFault → Type 0
RefusesOutside limit h t Stray = ⊥
RefusesOutside limit h t CannotMove = (state_of h.concrete.concrete).asleep t ≡ None
RefusesOutside limit h t Broken = ⊥
RefusesOutside limit h t Limit = ((state_of h.concrete.concrete).asleep t ≢ None) × (cost h.log ≡ limit)
RefusesOutside limit h t Memory = ((state_of h.concrete.concrete).asleep t ≢ None) × (cost h.log < limit)

-- thread t was killed: exactly one entry is new, with no local step and the event of the kill
pub record TakesKill (p : Program) (limit : ℕ) (old : LogState) (t : ℕ) (new : LogState) : Type 0 where
  pub event : Event
  pub gives : kill_piece p old.concrete t ≡ Ok (new.concrete, event)
  pub log : new.log ≡ old.log ++ record { thread = t; local = 0; event = Some event } ∷ []
  pub within : cost new.log ≤ limit

-- why a kill is refused: no such thread was made; the limit is reached; or there is no memory
abbrev pub RefusesKill : ℕ → LogState → ℕ → RunFault → Type 0
RefusesKill limit h t Stray = ⊥
RefusesKill limit h t CannotMove = thread_of h.concrete.concrete t ≡ None
RefusesKill limit h t Broken = ⊥
RefusesKill limit h t Limit = (thread_of h.concrete.concrete t ≢ None) × (cost h.log ≡ limit)
RefusesKill limit h t Memory = (thread_of h.concrete.concrete t ≢ None) × (cost h.log < limit)

-- the piece that a thread goes on from
abbrev pub Begins : PieceConcrete → ℕ → PieceView → Type 0
Begins k t a = (a.thread ≡ t) × (a.count ≡ 0) × (a.here ≡ a.origin) × (thread_of k.concrete t ≡ Some a.origin)
