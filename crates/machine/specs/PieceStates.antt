-- The machine's state with futex calls in pieces: beside the state, how far each thread has come in its call, and which
-- thread holds each bucket.
use Rattle.std.specs.Prelude.{ℕ, ◌≡◌, ◌<◌, ◌+◌, ◌⊎◌, Option, Some, None, List, true}
use Rattle.isa.specs.Programs.{Program}
use Rattle.buckets.specs.Places.{names}
use Rattle.futexcalls.specs.declared.pieces.FutexCall.{FutexCall}
use Rattle.futexcalls.specs.declared.pieces.FutexCall.TheVariants.{Wait, Wake, Requeue}
use Rattle.futexcalls.specs.declared.pieces.FutexPhase.{FutexPhase}
use Rattle.futexcalls.specs.declared.pieces.FutexPhase.TheVariants.{First, Second, Compare, Act}
use Rattle.futexcalls.specs.Pieces.{held_at, IsPhase, LiesIn}
use Rattle.locals.specs.Threads.{Thread}
use Rattle.locals.specs.Looks.{Request, AskWait, AskWake, AskRequeue, Look, Goes, Asks, Leaves, Breaks, Rests, look}
use Rattle.machine.specs.States.{State, opening_state}

-- a state; the phase of each thread, which is the first for a thread outside calls; the holder of each bucket, if it
-- has one; and how many buckets there are
pub record PieceState : Type 0 where
  pub base : State
  pub phase : ℕ → FutexPhase
  pub holder : ℕ → Option ℕ
  pub buckets : ℕ

-- what a thread asks for that makes a call
abbrev pub request_of : FutexCall → Request
request_of (Wait a expected) = AskWait a.0 expected
request_of (Wake a wakes) = AskWake a.0 wakes
request_of (Requeue a b wakes moves expected) = AskRequeue a.0 b.0 wakes moves expected

-- the futex call that a request is, if it is one
abbrev pub call_of : Request → Option FutexCall
call_of (AskWait a expected) = Some (Wait (record { 0 = a }) expected)
call_of (AskWake a wakes) = Some (Wake (record { 0 = a }) wakes)
call_of (AskRequeue a b wakes moves expected) =
    Some (Requeue (record { 0 = a }) (record { 0 = b }) wakes moves expected)
call_of request = None

-- the call that a thread makes which looks so, if it makes one
abbrev pub call_at : Look → Option FutexCall
call_at (Asks request go) = call_of request
call_at (Goes x) = None
call_at (Leaves phase) = None
call_at Breaks = None
call_at Rests = None

-- the call that thread u makes, if it was made and makes one
abbrev pub called : Program → ℕ → Option Thread → Option FutexCall
called p u None = None
called p u (Some x) = call_at (look p u x)

-- the buckets that a thread holds, by its phase
abbrev pub held : Program → PieceState → ℕ → List ℕ
held p s u = held_at s.buckets (s.phase u) (called p u (s.base.thread u))

-- where the thread of a call waits
abbrev pub waits_at : Option FutexCall → Option ℕ
waits_at (Some (Wait a expected)) = Some a.0
waits_at (Some (Wake a wakes)) = None
waits_at (Some (Requeue a b wakes moves expected)) = None
waits_at None = None

-- where a thread has committed to sleep: behind the comparison that found the word as expected
abbrev pub committed_at : FutexPhase → Option FutexCall → Option ℕ
committed_at First call = None
committed_at Second call = None
committed_at Compare call = None
committed_at Act call = waits_at call

abbrev pub committed : Program → PieceState → ℕ → Option ℕ
committed p s u = committed_at (s.phase u) (called p u (s.base.thread u))

-- a thread within a call: it is awake, and the words of its call lie in the memory
pub record IsWithin (p : Program) (s : PieceState) (u : ℕ) : Type 0 where
  pub thread : Thread
  pub call : FutexCall
  pub go : ℕ → Thread
  pub stands : s.base.thread u ≡ Some thread
  pub asks : look p u thread ≡ Asks (request_of call) go
  pub there : IsPhase s.buckets (s.phase u) call
  pub lies : LiesIn s.base.size call
  pub awake : s.base.asleep u ≡ None

-- what always holds: there is a bucket, no thread stands past those that were made, each is outside calls or within
-- one, and the buckets are held as the phases say
pub record IsHeldRight (p : Program) (s : PieceState) : Type 0 where
  pub some : 0 < s.buckets
  pub few : (u : ℕ) (x : Thread) → s.base.thread u ≡ Some x → u < s.base.made + 1
  pub apart : (u : ℕ) → (s.phase u ≡ First) ⊎ IsWithin p s u
  pub right : (b u : ℕ) → s.holder b ≡ Some u → names (held p s u) b ≡ true
  pub all : (b u : ℕ) → names (held p s u) b ≡ true → s.holder b ≡ Some u

-- the state in which a program begins, with so many buckets: nobody holds one, and no thread is within a call
abbrev pub opening_pieces : Program → ℕ → PieceState
opening_pieces p n = record { base = opening_state p; phase = λ t. First; holder = λ b. None; buckets = n }
