-- A machine whose threads take futex calls in pieces, as contracts see it, and its steps.
use Rattle.std.specs.Prelude.{ℕ, ◌≡◌, ◌<◌, ◌==◌, Bool, List, [], ◌∷◌, Option, Some, None, Ok, true, false, is_some, length, slice_index_or}
use Rattle.std.specs.Prelude.{MatchOption}
use Rattle.std.specs.List.{sum_by}
use Rattle.words.specs.Limits.{most_threads}
use Rattle.buckets.specs.Sleepers.{bucket_count, holder_of}
use Rattle.isa.specs.Programs.{Program}
use Rattle.futexcalls.specs.declared.pieces.FutexCall.{FutexCall}
use Rattle.futexcalls.specs.declared.pieces.FutexCall.TheVariants.{Wait, Wake, Requeue}
use Rattle.futexcalls.specs.declared.pieces.FutexPhase.{FutexPhase}
use Rattle.futexcalls.specs.declared.pieces.FutexPhase.TheVariants.{First, Second, Compare, Act}
use Rattle.futexcalls.specs.Pieces.{takes_at, LiesIn}
use Rattle.robustexit.specs.ExitRules.{exit_of}
use Rattle.locals.specs.Threads.{Thread}
use Rattle.locals.specs.Looks.{look}
use Rattle.locals.specs.Steps.{local_step, local_after}
use Rattle.locals.specs.declared.access.Access.{Access}
use Rattle.machine.specs.Accessing.{HasNoAccess, told_access}
use Rattle.machine.specs.ConcreteSteps.{can_move}
use Rattle.machine.specs.LocalRuns.{RunsOn}
use Rattle.machine.specs.States.{thread_of}
use Rattle.machine.specs.Views.{View, concrete, IsWellFormed}
use Rattle.machine.specs.ConcretePieces.{pieces_of}
use Rattle.machine.specs.ConcreteServing.{plain}
use Rattle.machine.specs.FrontRuns.{doing_of}
use Rattle.machine.specs.declared.event.Event.{Event}
use Rattle.machine.specs.declared.event.EventName.{EventName}
use Rattle.machine.specs.declared.event.EventName.TheVariants as name
use Rattle.machine.specs.declared.event.StepFault.{StepFault}
use Rattle.machine.specs.declared.event.StepFault.TheVariants.{CannotMove, Broken}
use Rattle.machine.specs.PieceStates.{PieceState, IsHeldRight, call_at, called}
use Rattle.machine.specs.PieceSteps.{IsPieceStep, PieceRun, BlocksAt, BlocksCall, CanTakePiece}
use Rattle.machine.specs.Runs.{Own, Strayed, Killed, Step, is_paused}
use Rattle.machine.specs.ThreadSets.{set_of}
use Rattle.piece_machine.specs.PieceConcrete.{PieceConcrete, piece_of, with_local}
use Rattle.piece_machine.specs.declared.told.Told.{Told}
use Rattle.piece_machine.specs.declared.told.Told.TheVariants.{Plain, Written}

-- the machine, and for each thread from 0 the phase of its call
pub record PieceView : Type 0 where
  pub view : View
  pub phases : List FutexPhase

-- the phase of a thread
abbrev pub phase_in : List FutexPhase → ℕ → FutexPhase
phase_in phases t = slice_index_or phases t First

-- a phase within a call counts once
abbrev pub within : FutexPhase → ℕ
within First = 0
within Second = 1
within Compare = 1
within Act = 1

-- how many threads are within a call
abbrev pub count_within : List FutexPhase → ℕ
count_within phases = sum_by within phases

-- the state that it stands for
abbrev pub pieces : PieceView → PieceState
pieces v = pieces_of v.view (phase_in v.phases)

-- what it keeps
abbrev pub parts : PieceView → PieceConcrete
parts v = record {
  concrete = concrete v.view;
  phase = phase_in v.phases;
  holder = holder_of v.view.sleepers;
  buckets = bucket_count v.view.sleepers;
}

-- a run of the program from its opening, over some number of buckets, leads to the state
pub record IsComeTo (p : Program) (s : PieceState) : Type 0 where
  pub buckets : ℕ
  pub some : 0 < buckets
  pub steps : List Step
  pub run : PieceRun p buckets steps s

-- what always holds
pub record IsKept (view : View) (phases : List FutexPhase) : Type 0 where
  pub well : IsWellFormed view.program (concrete view)
  pub right : IsHeldRight view.program (pieces_of view (phase_in phases))
  pub come : IsComeTo view.program (pieces_of view (phase_in phases))
  pub long : most_threads < length phases

-- a step of thread t from one state to another, which wakes these threads
abbrev pub own_step : PieceState → ℕ → List ℕ → Step
own_step s' t woken = record { thread = t; woken = woken; pauses = is_paused s'.base t; doing = Own }

-- the word that a call expects, 0 where it expects none
abbrev pub expected_of : FutexCall → ℕ
expected_of (Wait a expected) = expected
expected_of (Wake a wakes) = 0
expected_of (Requeue a b wakes moves expected) = expected

-- how a piece is told that takes this bucket, or else compares the word, and behind which its call goes on
abbrev pub told_next : Option ℕ → FutexCall → Event
told_next (Some b) call = plain name.FutexLock b
told_next None call = plain name.FutexCompare (expected_of call)

-- the event of a step that is told of so, where this event was put in its place
abbrev pub event_told : Told → Event → Event
event_told (Plain kind value) event = plain kind value
event_told Written event = event

-- what an event tells of a step, by its name: which bucket the thread took, or which word it found as expected; any other
-- is of a step behind which the thread stands outside calls
abbrev pub Tells : Program → PieceState → ℕ → List ℕ → PieceState → EventName → ℕ → Type 0
Tells p s t woken s' name.FutexLock b =
    (woken ≡ []) × (call : FutexCall) × (called p t (s.base.thread t) ≡ Some call)
    × (takes_at s.buckets (s.phase t) call ≡ Some b)
Tells p s t woken s' name.FutexCompare v =
    (woken ≡ []) × (call : FutexCall) × (called p t (s.base.thread t) ≡ Some call)
    × (s.phase t ≡ Compare) × (s'.phase t ≡ Act) × (v ≡ expected_of call)
Tells p s t woken s' _ v = s'.phase t ≡ First

-- one step of thread t, told so
pub record Steps (p : Program) (s : PieceState) (t : ℕ) (e : Event) (s' : PieceState) : Type 0 where
  pub woken : List ℕ
  pub step : IsPieceStep p s (own_step s' t woken) s'
  pub wakes : e.woken ≡ set_of woken
  pub doing : doing_of e.name e.value ≡ Own
  pub told : Tells p s t woken s' e.name e.value

-- thread t was made and is awake, makes no futex call, and no held bucket is in its way
pub record IsApart (p : Program) (s : PieceState) (t : ℕ) : Type 0 where
  pub thread : Thread
  pub stands : s.base.thread t ≡ Some thread
  pub awake : s.base.asleep t ≡ None
  pub none : call_at (look p t thread) ≡ None
  pub free : BlocksAt (exit_of p.version) s t (look p t thread) → ⊥

-- thread t was made, and a held bucket is in its way
pub record IsBlocked (p : Program) (s : PieceState) (t : ℕ) : Type 0 where
  pub thread : Thread
  pub stands : s.base.thread t ≡ Some thread
  pub blocks : BlocksAt (exit_of p.version) s t (look p t thread)

-- the next step of thread t is none of its own alone
abbrev pub HasNoLocal : View → ℕ → Type 0
HasNoLocal v t = (x : Thread) → thread_of (concrete v) t ≡ Some x → is_some (local_step v.program t x) ≡ false

-- why the next piece of a call of thread t is refused, if it is: a held bucket is in its way, or one of its words lies
-- outside the memory
abbrev pub RefusesCall : PieceState → ℕ → FutexCall → Option StepFault → Type 0
RefusesCall s t call None = LiesIn s.base.size call × (BlocksCall s t (Some call) → ⊥)
RefusesCall s t call (Some CannotMove) = BlocksCall s t (Some call)
RefusesCall s t call (Some Broken) = LiesIn s.base.size call → ⊥

-- no thread can take a step
abbrev pub IsAtRest : Program → PieceState → Type 0
IsAtRest p s = (t : ℕ) → CanTakePiece p s t → ⊥

-- a wake of thread t from outside
abbrev pub stray_step : ℕ → ℕ → Step
stray_step t a = record { thread = t; woken = t ∷ []; pauses = false; doing = Strayed a }

-- one is a step of the machine with pieces, and is told with the address where the thread slept
pub record Strays (p : Program) (s : PieceState) (t : ℕ) (e : Event) (s' : PieceState) : Type 0 where
  pub step : IsPieceStep p s (stray_step t e.value) s'
  pub doing : doing_of e.name e.value ≡ Strayed e.value
  pub told : e.woken ≡ set_of (t ∷ [])

-- why it is refused: the thread doesn't sleep
abbrev pub RefusesStray : PieceState → ℕ → StepFault → Type 0
RefusesStray s t CannotMove = s.base.asleep t ≡ None
RefusesStray s t Broken = ⊥

-- a kill of thread t from outside
abbrev pub kill_step : ℕ → Bool → Step
kill_step t begins = record { thread = t; woken = []; pauses = false; doing = Killed begins }

-- one is a step of the machine with pieces, by which the thread begins to die just where the event's value is 1
pub record Kills (p : Program) (s : PieceState) (t : ℕ) (e : Event) (s' : PieceState) : Type 0 where
  pub step : IsPieceStep p s (kill_step t (e.value == 1)) s'
  pub doing : doing_of e.name e.value ≡ Killed (e.value == 1)
  pub told : e.woken ≡ set_of []

-- why it is refused: no such thread was made
abbrev pub RefusesPieceKill : PieceState → ℕ → StepFault → Type 0
RefusesPieceKill s t CannotMove = s.base.thread t ≡ None
RefusesPieceKill s t Broken = ⊥

-- thread t stands in the machine, and some number of local steps leads it here
pub record GoesTo (v : View) (t : ℕ) (here : Thread) : Type 0 where
  pub origin : Thread
  pub count : ℕ
  pub stands : thread_of (concrete v) t ≡ Some origin
  pub goes : local_after v.program t count origin ≡ Some here

-- thread t, which went from where it stands to this state, made the access to a word that was its next step there, no step
-- of its own alone, and stands where that led, as the state does
pub record DoneFrom (told : Access) (old : PieceView) (t : ℕ) (here : Thread) (new : PieceView) (there : Thread) : Type 0 where
  pub gives : piece_of old.view.program (with_local (parts old) t here) t ≡ Ok (parts new, told_access told)
  pub shared : is_some (local_step old.view.program t here) ≡ false
  pub stands : thread_of (concrete new.view) t ≡ Some there
  pub moves : can_move (concrete new.view) t ≡ true

-- thread t took so many local steps in its place, and then made the access to a word that came next, as its step is, or none
-- did, and nothing else changed
pub record WalksFrom (old : PieceView) (t budget count : ℕ) (access : Option Access) (new : PieceView) : Type 0 where
  pub mid : PieceView
  pub runs : RunsOn old.view t budget count mid.view
  pub moves : can_move (concrete mid.view) t ≡ true
  pub phases : mid.phases ≡ old.phases
  pub made : MatchOption access ((new ≡ mid) × HasNoAccess mid.view t)
      (λ told. (piece_of mid.view.program (parts mid) t ≡ Ok (parts new, told_access told)) × HasNoLocal mid.view t)
