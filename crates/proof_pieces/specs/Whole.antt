-- The state of the whole calls behind the pieces: each thread that has committed to sleep sleeps already.
use Rattle.std.specs.Prelude.{ℕ, Option, Some, None}
use Rattle.isa.specs.Programs.{Program}
use Rattle.futexcalls.specs.declared.pieces.FutexPhase.{FutexPhase}
use Rattle.futexcalls.specs.declared.pieces.FutexPhase.TheVariants.{First, Second, Compare, Act}
use Rattle.locals.specs.Threads.{Thread}
use Rattle.locals.specs.Looks.{AskWait, Look, Asks, look}
use Rattle.machine.specs.States.{State}
use Rattle.machine.specs.PieceStates.{PieceState, committed}

-- where a thread sleeps, or else has committed to
abbrev pub either : Option ℕ → Option ℕ → Option ℕ
either (Some a) o = Some a
either None o = o

-- a thread that has committed goes on behind its wait
abbrev pub resumed : Look → Thread → Thread
resumed (Asks (AskWait a expected) go) x = go 0
resumed l x = x

abbrev pub behind : FutexPhase → Look → Thread → Thread
behind First l x = x
behind Second l x = x
behind Compare l x = x
behind Act l x = resumed l x

abbrev pub whole_at : Program → ℕ → FutexPhase → Option Thread → Option Thread
whole_at p u phase None = None
whole_at p u phase (Some x) = Some (behind phase (look p u x) x)

-- the state of the whole calls
abbrev pub whole : Program → PieceState → State
whole p s = record s.base {
  thread = λ u. whole_at p u (s.phase u) (s.base.thread u);
  asleep = λ u. either (s.base.asleep u) (committed p s u);
}
