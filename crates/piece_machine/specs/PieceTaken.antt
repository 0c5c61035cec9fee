-- What a step of the machine with pieces was: one of the whole machine, or a piece of a call.
use Rattle.std.specs.Prelude.{ℕ, ◌≡◌, ◌≢◌, ◌+◌, [], length, Some, None, Ok}
use Rattle.words.specs.Updates.{put}
use Rattle.isa.specs.Programs.{Program}
use Rattle.futexcalls.specs.declared.pieces.FutexCall.{FutexCall}
use Rattle.futexcalls.specs.declared.pieces.FutexPhase.TheVariants.{Compare, Act}
use Rattle.futexcalls.specs.Pieces.{takes_at, after_lock, again_of, LiesIn, Compares}
use Rattle.futexcalls.specs.PieceResults.{woken_by, moved_by}
use Rattle.locals.specs.Threads.{Thread}
use Rattle.locals.specs.Looks.{Asks, look}
use Rattle.machine.specs.declared.event.Event.{Event}
use Rattle.machine.specs.declared.event.EventName.TheVariants as name
use Rattle.machine.specs.States.{ConcreteState, thread_of}
use Rattle.machine.specs.ConcreteServing.{event_of, plain, load}
use Rattle.machine.specs.ConcretePieces.{call_name}
use Rattle.machine.specs.ConcreteSteps.{step_of}
use Rattle.machine.specs.PieceStates.{request_of}
use Rattle.piece_machine.specs.PieceConcrete.{PieceConcrete, pieces_at, piece_of, over_at, acted}
use Rattle.piece_machine.specs.PieceViews.{IsApart}

-- thread t makes this call, awake, and its words lie in the memory
pub record Calls (p : Program) (k : PieceConcrete) (t : ℕ) (call : FutexCall) (go : ℕ → Thread) : Type 0 where
  pub thread : Thread
  pub stands : thread_of k.concrete t ≡ Some thread
  pub awake : k.concrete.common.asleep t ≡ None
  pub asks : look p t thread ≡ Asks (request_of call) go
  pub lies : LiesIn (length k.concrete.common.words) call

-- how many an act of this call wakes and moves
abbrev pub touched : PieceConcrete → FutexCall → ℕ
touched k call = length (woken_by call k.concrete.common.queue) + length (moved_by call k.concrete.common.queue)

-- what a step was that is told so and leads there
pub data Taken (p : Program) (k : PieceConcrete) (t : ℕ) (e : Event) (k' : PieceConcrete) : Type 0 where
  -- it is none of a call
  WholeStep : (c : ConcreteState) → IsApart p (pieces_at k) t → step_of p k.concrete t ≡ Ok (c, e)
      → k' ≡ record k { concrete = c } → Taken p k t e k'
  -- a bucket is taken
  BucketTaken : (call : FutexCall) (go : ℕ → Thread) (b : ℕ) → Calls p k t call go
      → takes_at k.buckets (k.phase t) call ≡ Some b → k.holder b ≡ None → e ≡ plain name.FutexLock b
      → k' ≡ record k {
        phase = put k.phase t (after_lock k.buckets (k.phase t) call);
        holder = put k.holder b (Some t);
      } → Taken p k t e k'
  -- the word is as expected
  WordFound : (call : FutexCall) (go : ℕ → Thread) (a v : ℕ) → Calls p k t call go → Compares call a v
      → k.phase t ≡ Compare → load k.concrete.common a ≡ v → e ≡ plain name.FutexCompare v
      → k' ≡ record k { phase = put k.phase t Act } → Taken p k t e k'
  -- it differs, and the call is over
  WordDiffers : (call : FutexCall) (go : ℕ → Thread) (a v : ℕ) → Calls p k t call go → Compares call a v
      → k.phase t ≡ Compare → load k.concrete.common a ≢ v → e ≡ event_of (call_name call) (again_of call) [] []
      → k' ≡ over_at k t call go k.concrete.common (again_of call) → Taken p k t e k'
  -- the call acts, and is over
  CallActs : (call : FutexCall) (go : ℕ → Thread) → Calls p k t call go → k.phase t ≡ Act
      → e ≡ event_of (call_name call) (touched k call) (woken_by call k.concrete.common.queue)
      (moved_by call k.concrete.common.queue)
      → k' ≡ over_at k t call go (acted t call k.concrete.common) (touched k call) → Taken p k t e k'

-- each step is one of these
abbrev pub TakenSo : Type 0
TakenSo = (p : Program) (k k' : PieceConcrete) (t : ℕ) (e : Event) → piece_of p k t ≡ Ok (k', e) → Taken p k t e k'
