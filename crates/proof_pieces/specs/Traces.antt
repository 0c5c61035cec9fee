-- A run in pieces as a trace of steps with whole calls. Each of its steps is loud, one of those; or silent, none of
-- them: a piece of a call before the one that is its step, or the last piece of a wait, whose thread sleeps already
-- where calls are whole.
use Rattle.std.specs.Prelude.{ℕ, suc, ◌≡◌, ◌<◌, ◌≤◌, ◌==◌, ◌%◌, ◌⊎◌, true, false, if◌then◌else◌, List, [], ◌∷◌, Option}
use Rattle.std.specs.Prelude.{Some, None}
use Rattle.isa.specs.Programs.{Program}
use Rattle.futexcalls.specs.declared.pieces.FutexCall.{FutexCall}
use Rattle.futexcalls.specs.declared.pieces.FutexCall.TheVariants.{Requeue}
use Rattle.futexcalls.specs.declared.pieces.FutexPhase.{FutexPhase}
use Rattle.futexcalls.specs.declared.pieces.FutexPhase.TheVariants.{First, Second, Compare, Act}
use Rattle.locals.specs.Threads.{Thread}
use Rattle.locals.specs.Looks.{AskWait, AskWake, AskRequeue, Look, Asks, look}
use Rattle.machine.specs.States.{State}
use Rattle.machine.specs.Runs.{Own, Step, is_own, is_paused}
use Rattle.machine.specs.PieceStates.{PieceState, called}
use Rattle.proof_pieces.specs.WholeCalls.{IsWholeDone}

-- how many pieces of a call come before the one that is its step with whole calls, at most
abbrev pub pieces_before : Look → ℕ
pieces_before (Asks (AskWait a expected) go) = 1
pieces_before (Asks (AskWake a n) go) = 1
pieces_before (Asks (AskRequeue a b n m expected) go) = 3
pieces_before other = 0

-- the same of a thread, if it was made
abbrev pub pieces_of : Program → ℕ → Option Thread → ℕ
pieces_of p t None = 0
pieces_of p t (Some x) = pieces_before (look p t x)

-- a loud step of a thread's own comes behind no more pieces than its call has before it. Where the thread doesn't pause
-- behind it, it doesn't where calls are whole; but for a wait, which sleeps there before its last piece
pub record KeepsTime (p : Program) (s : State) (taken : ℕ → ℕ) (step : Step) (s' : State) : Type 0 where
  pub few : taken step.thread ≤ pieces_of p step.thread (s.thread step.thread)
  pub goes_on : step.pauses ≡ false → (is_paused s' step.thread ≡ false)
      ⊎ ((0 < pieces_of p step.thread (s.thread step.thread)) × (a : ℕ) × (s'.asleep step.thread ≡ Some a))

-- by a silent step behind which it doesn't pause, a thread takes one piece more of the call before which it stands
pub record TakesPiece (p : Program) (s : State) (taken : ℕ → ℕ) (step : Step) (next : ℕ → ℕ) : Type 0 where
  pub awake : s.asleep step.thread ≡ None
  pub few : taken step.thread < pieces_of p step.thread (s.thread step.thread)
  pub more : next step.thread ≡ suc (taken step.thread)

-- one step of a run, from a state with whole calls to the next; and of how many pieces of its call each thread has
-- taken before it and behind it, what is asked of the thread that steps
pub data TraceStep (p : Program) (s : State) (taken : ℕ → ℕ) (step : Step) (s' : State) (next : ℕ → ℕ) : Type 0 where
  Loud : IsWholeDone p s step s' step.doing → (is_own step.doing ≡ true → KeepsTime p s taken step s')
      → TraceStep p s taken step s' next
  Silent : step.doing ≡ Own → s' ≡ s → (step.pauses ≡ false → TakesPiece p s taken step next)
      → TraceStep p s taken step s' next

-- steps one after another, from a state with whole calls, and so many pieces taken, to another
abbrev pub Trace : Program → State → (ℕ → ℕ) → List Step → State → Type 0
Trace p s taken [] s' = s ≡ s'
Trace p s taken (step ∷ steps) s' =
    (mid : State) × (next : ℕ → ℕ) × TraceStep p s taken step mid next × Trace p mid next steps s'

-- no thread has taken a piece
abbrev pub none_taken : ℕ → ℕ
none_taken t = 0

-- how many pieces of a call are behind a thread in this phase
abbrev pub taken_at : ℕ → FutexPhase → Option FutexCall → ℕ
taken_at n First call = 0
taken_at n Second call = 1
taken_at n Compare (Some (Requeue a b wakes moves expected)) = if a.0 % n == b.0 % n then 1 else 2
taken_at n Compare call = 1
taken_at n Act (Some (Requeue a b wakes moves expected)) = if a.0 % n == b.0 % n then 2 else 3
taken_at n Act call = 1

-- how many pieces of its call each thread has taken
abbrev pub taken : Program → PieceState → ℕ → ℕ
taken p s u = taken_at s.buckets (s.phase u) (called p u (s.base.thread u))
