-- What comes of a try to make a thread's next entry.
use Rattle.std.specs.Prelude.{ℕ, ◌≡◌, ◌≤◌, ◌<◌, Bool, true, false, length, Some, None, Result, Ok}
use Rattle.words.specs.Limits.{most_local_steps}
use Rattle.isa.specs.Programs.{Program}
use Rattle.futexcalls.specs.declared.pieces.FutexCall.{FutexCall}
use Rattle.futexcalls.specs.declared.pieces.FutexPhase.TheVariants.{First as First'}
use Rattle.futexcalls.specs.Pieces.{takes_at}
use Rattle.locals.specs.Looks.{look}
use Rattle.locals.specs.Steps.{local_step, local_after}
use Rattle.locals.specs.Threads.{Thread}
use Rattle.machine.specs.ConcreteSteps.{can_move}
use Rattle.machine.specs.PieceStates.{call_at}
use Rattle.machine.specs.States.{thread_of}
use Rattle.machine.specs.declared.event.Entry.{Entry}
use Rattle.piece_machine.specs.PieceConcrete.{PieceConcrete, lies_in}
use Rattle.runner.specs.declared.attempt.Attempt.{Attempt}
use Rattle.runner.specs.declared.attempt.Attempt.TheVariants.{Accessed, Made, Took, Wants, HeldUp, Refused}
use Rattle.runner.specs.declared.attempt.Obstacle.{Obstacle}
use Rattle.runner.specs.declared.attempt.Obstacle.TheVariants.{First, Other}
use Rattle.runner.specs.declared.fault.RunFault.{RunFault}
use Rattle.runner.specs.Logs.{EntersOwn}

-- whether the entry was made
abbrev pub is_made : Attempt → Bool
is_made Accessed = true
is_made Made = true
is_made (Took bucket) = true
is_made (Wants bucket) = false
is_made HeldUp = false
is_made Refused = false

-- what came of a try: an entry that ended with an access where that was answered, and else what was told beside it
abbrev pub came : Bool → Result Attempt RunFault → Result Attempt RunFault
came true told = Ok Accessed
came false told = told

-- a thread that stands here makes a call that takes this bucket first, which it is still to take
pub record AsksFirst (p : Program) (k : PieceConcrete) (t bucket : ℕ) (here : Thread) : Type 0 where
  pub call : FutexCall
  pub calls : call_at (look p t here) ≡ Some call
  pub first : k.phase t ≡ First'
  pub takes : takes_at k.buckets First' call ≡ Some bucket

-- the local steps of a thread that can move lead it there within its turn, and the words of the call lie in the memory: so
-- its next entry can't be made as long as another thread holds the bucket
pub record WantsBucket (p : Program) (k : PieceConcrete) (t bucket : ℕ) : Type 0 where
  pub count : ℕ
  pub origin : Thread
  pub here : Thread
  pub moves : can_move k.concrete t ≡ true
  pub stands : thread_of k.concrete t ≡ Some origin
  pub goes : local_after p t count origin ≡ Some here
  pub turn : count ≤ most_local_steps
  pub whole : count < most_local_steps → local_step p t here ≡ None
  pub asks : AsksFirst p k t bucket here
  pub lies : lies_in (length k.concrete.common.words) asks.call ≡ true

-- an entry of the thread's own led from one state to the other
abbrev pub HasEntered : Program → PieceConcrete → ℕ → PieceConcrete → Type 0
HasEntered p k t k' = (e : Entry) × (e.thread ≡ t) × EntersOwn p k e k'

-- where the bucket in the way is the first of a call, the thread wants it
abbrev pub WantsIf : Program → PieceConcrete → ℕ → Obstacle → Type 0
WantsIf p k t (First bucket) = WantsBucket p k t bucket
WantsIf p k t Other = Unit {0}

-- what is told of a try that led from one state to the other
abbrev pub TriedSo : Program → PieceConcrete → ℕ → Attempt → PieceConcrete → Type 0
TriedSo p k t Accessed k' = HasEntered p k t k' × (can_move k'.concrete t ≡ true)
TriedSo p k t Made k' = HasEntered p k t k'
TriedSo p k t (Took bucket) k' = HasEntered p k t k'
TriedSo p k t (Wants bucket) k' = WantsBucket p k' t bucket
TriedSo p k t HeldUp k' = Unit {0}
TriedSo p k t Refused k' = Unit {0}
