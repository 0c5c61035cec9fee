-- The runs of the machine: any thread next, any choice of sleepers.
use Rattle.std.specs.Prelude.{ℕ, ◌≡◌, List, [], ◌∷◌, Bool, true, false, not, Option, Some, None, is_some, ◌||◌}
use Rattle.words.specs.declared.outcome.Cause.TheVariants.{Killed as Killed'}
use Rattle.isa.specs.Programs.{Program}
use Rattle.robustexit.specs.declared.phase.ExitPhase.{ExitPhase}
use Rattle.robustexit.specs.declared.phase.ExitPhase.TheVariants.{Ended}
use Rattle.robustexit.specs.RobustExit.{Shared, ExitStep}
use Rattle.locals.specs.Threads.{Thread, Runs, Dies, Exits, is_dying}
use Rattle.locals.specs.Looks.{Look, Goes, Asks, Leaves, Breaks, Rests, look}
use Rattle.words.specs.Updates.{put}
use Rattle.machine.specs.States.{State, opening_state, with_thread, with_sleepers}
use Rattle.machine.specs.AbstractServing.{Serves, IsUnserved, shared_of, with_shared}
use Rattle.robustexit.specs.declared.rule.ExitRule.{ExitRule}
use Rattle.robustexit.specs.ExitRules.{exit_of}

-- what a step is: one that its thread takes; or a wake from outside that nobody called for, of a thread that slept at
-- this address; or a kill from outside, and whether the thread begins to die by it
pub data Doing : Type 0 where
  Own : Doing
  Strayed : (address : ℕ) → Doing
  Killed : (begins : Bool) → Doing

-- whether a step is one of its thread's own
abbrev pub is_own : Doing → Bool
is_own Own = true
is_own (Strayed a) = false
is_own (Killed begins) = false

-- a step, by its thread and the sleepers that it woke; whether the thread then sleeps or has ended; and what it is
pub record Step : Type 0 where
  pub thread : ℕ
  pub woken : List ℕ
  pub pauses : Bool
  pub doing : Doing

-- whether a thread's exit is over
abbrev pub has_ended : Option Thread → Bool
has_ended (Some (Exits Ended)) = true
has_ended (Some (Exits phase)) = false
has_ended (Some (Runs place operands locals callers)) = false
has_ended (Some (Dies cause)) = false
has_ended None = false

-- the thread sleeps or has ended
abbrev pub is_paused : State → ℕ → Bool
is_paused s t = is_some (s.asleep t) || has_ended (s.thread t)

-- what a thread that looks so does in one step, where exits are by this rule
abbrev pub Moves : ExitRule → State → ℕ → List ℕ → Look → State → Type 0
Moves rule s t woken (Goes x) s' = (woken ≡ []) × (s' ≡ with_thread s t x)
Moves rule s t woken (Asks request go) s' =
    (answer : ℕ) × (mid : State) × Serves t request s woken answer mid × (s' ≡ with_thread mid t (go answer))
Moves rule s t woken (Leaves phase) s' =
    (after : Shared) × (next : ExitPhase) × ExitStep rule s.size t phase (shared_of s) woken after next
    × (s' ≡ with_thread (with_shared s after) t (Exits next))
Moves rule s t woken Breaks s' = ⊥
Moves rule s t woken Rests s' = ⊥

-- one step of a thread that was made and doesn't sleep
pub record IsOwnStep (p : Program) (s : State) (step : Step) (s' : State) : Type 0 where
  pub thread : Thread
  pub stands : s.thread step.thread ≡ Some thread
  pub awake : s.asleep step.thread ≡ None
  pub moves : Moves (exit_of p.version) s step.thread step.woken (look p step.thread thread) s'
  pub pauses : step.pauses ≡ is_paused s' step.thread

-- a wake from outside of a thread that sleeps
pub record IsStrayStep (a : ℕ) (s : State) (step : Step) (s' : State) : Type 0 where
  pub sleeps : s.asleep step.thread ≡ Some a
  pub woken : step.woken ≡ step.thread ∷ []
  pub after : s' ≡ with_sleepers s (put s.asleep step.thread None)
  pub pauses : step.pauses ≡ false

-- the state behind a kill of thread t: where it begins to die by it, it has left its sleep; else nothing is changed
abbrev pub killed_to : Bool → State → ℕ → State
killed_to true s t = with_thread (with_sleepers s (put s.asleep t None)) t (Dies Killed')
killed_to false s t = s

-- a kill from outside of a thread that was made: one that is dying or has ended isn't changed, another begins to die
pub record IsKillStep (begins : Bool) (s : State) (step : Step) (s' : State) : Type 0 where
  pub thread : Thread
  pub stands : s.thread step.thread ≡ Some thread
  pub begins_so : begins ≡ not (is_dying thread)
  pub woken : step.woken ≡ []
  pub after : s' ≡ killed_to begins s step.thread
  pub pauses : step.pauses ≡ false

-- a step, by what it is
abbrev pub IsDone : Program → State → Step → State → Doing → Type 0
IsDone p s step s' Own = IsOwnStep p s step s'
IsDone p s step s' (Strayed a) = IsStrayStep a s step s'
IsDone p s step s' (Killed begins) = IsKillStep begins s step s'

-- one step of the machine
abbrev pub IsStep : Program → State → Step → State → Type 0
IsStep p s step s' = IsDone p s step s' step.doing

-- steps from a state to another, one after another
abbrev pub GoesBy : Program → State → List Step → State → Type 0
GoesBy p s [] s' = s ≡ s'
GoesBy p s (step ∷ steps) s' = (mid : State) × IsStep p s step mid × GoesBy p mid steps s'

-- a run of the machine, from the opening state
abbrev pub MachineRun : Program → List Step → State → Type 0
MachineRun p steps s = GoesBy p (opening_state p) steps s

-- the thread was made, doesn't sleep and has not ended
pub record CanStep (s : State) (t : ℕ) : Type 0 where
  pub thread : Thread
  pub stands : s.thread t ≡ Some thread
  pub awake : s.asleep t ≡ None
  pub goes_on : has_ended (Some thread) ≡ false

-- what may not be: a missing operand, a 513th operand, a 17th frame, a place outside the code, a process number out of
-- range, an address outside the memory
abbrev pub IsBroken : State → Look → Type 0
IsBroken s (Goes x) = ⊥
IsBroken s (Asks request go) = IsUnserved request s
IsBroken s (Leaves phase) = ⊥
IsBroken s Breaks = Unit {0}
IsBroken s Rests = ⊥

-- the thread's next step may not be
pub record NextIsBroken (p : Program) (s : State) (t : ℕ) : Type 0 where
  pub thread : Thread
  pub stands : s.thread t ≡ Some thread
  pub awake : s.asleep t ≡ None
  pub breaks : IsBroken s (look p t thread)
