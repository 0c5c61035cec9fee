-- What a machine and the phases of its threads stand for, and what its piece of a futex call does.
use Rattle.std.specs.Prelude.{ℕ, ◌≡◌, ◌≢◌, ◌%◌, ◌+◌, Bool, true, false, List, [], Some, length}
use Rattle.words.specs.Updates.{put}
use Rattle.buckets.specs.Sleepers.{Sleepers, queue, bucket_count, holder_of}
use Rattle.futexcalls.specs.Answers.{word_of}
use Rattle.futexcalls.specs.declared.pieces.FutexCall.{FutexCall}
use Rattle.futexcalls.specs.declared.pieces.FutexCall.TheVariants.{Wait, Wake, Requeue}
use Rattle.futexcalls.specs.declared.pieces.FutexPhase.{FutexPhase}
use Rattle.futexcalls.specs.declared.pieces.FutexPhase.TheVariants.{First, Second, Compare, Act}
use Rattle.futexcalls.specs.Progress as told
use Rattle.futexcalls.specs.Progress.{PieceAnswer, Again, Acted, PieceProgress}
use Rattle.futexcalls.specs.Pieces.{again_of}
use Rattle.futexcalls.specs.PieceResults.{answer_of, woken_by, moved_by, queue_by}
use Rattle.robustexit.specs.declared.phase.ExitPhase.{ExitPhase}
use Rattle.robustexit.specs.Waking.{WakesOn}
use Rattle.locals.specs.Threads.{Thread}
use Rattle.locals.specs.Looks.{Asks, look}
use Rattle.machine.specs.declared.call_step.CallStep.{CallStep}
use Rattle.machine.specs.declared.call_step.CallStep.TheVariants.{Next, Blocked, Done}
use Rattle.machine.specs.declared.call_step.CallProgress.{CallProgress}
use Rattle.machine.specs.declared.call_step.CallProgress.TheVariants as common
use Rattle.machine.specs.declared.event.Event.{Event}
use Rattle.machine.specs.declared.event.EventName.{EventName}
use Rattle.machine.specs.declared.event.EventName.TheVariants as name
use Rattle.machine.specs.ConcreteServing.{event_of}
use Rattle.machine.specs.States.{state_of, thread_of}
use Rattle.machine.specs.PieceStates.{PieceState, request_of}
use Rattle.machine.specs.PieceSteps.{Piece, BlocksCall}
use Rattle.machine.specs.Views.{View, concrete}
use Rattle.robustexit.specs.declared.rule.ExitRule.{ExitRule}

-- the state with pieces of a machine whose threads have these phases
abbrev pub pieces_of : View → (ℕ → FutexPhase) → PieceState
pieces_of v phases = record {
  base = state_of (concrete v);
  phase = phases;
  holder = holder_of v.sleepers;
  buckets = bucket_count v.sleepers;
}

-- thread t was made, and makes this call
pub record MakesCall (v : View) (t : ℕ) (call : FutexCall) : Type 0 where
  pub thread : Thread
  pub go : ℕ → Thread
  pub stands : thread_of (concrete v) t ≡ Some thread
  pub asks : look v.program t thread ≡ Asks (request_of call) go

-- how a call that is over is told
abbrev pub call_name : FutexCall → EventName
call_name (Wait a expected) = name.Wait
call_name (Wake a wakes) = name.Wake
call_name (Requeue a b wakes moves expected) = name.Requeue

-- whether an event of this name is told of a piece behind which its call goes on
abbrev pub is_piece : EventName → Bool
is_piece name.FutexLock = true
is_piece name.FutexCompare = true
is_piece _ = false

-- whom an answered call woke, and whom it moved
abbrev pub woken_in : PieceAnswer → List ℕ
woken_in Again = []
woken_in (Acted r) = r.woken

abbrev pub moved_in : PieceAnswer → List ℕ
moved_in Again = []
moved_in (Acted r) = r.moved

-- what came of a piece, as those who share the memory are told it, with the event of a call that is over
abbrev pub Tells : FutexCall → PieceProgress → CallProgress → Event → Type 0
Tells call (told.Next phase) (common.Next phase') event = phase ≡ phase'
Tells call told.Blocked common.Blocked event = Unit {0}
Tells call (told.Done answer) (common.Done value) event =
    (value ≡ answer_of call answer)
    × (event ≡ event_of (call_name call) (answer_of call answer) (woken_in answer) (moved_in answer))
Tells call progress result event = ⊥

-- a piece of thread t's call is one step of the machine with pieces, with this event where the call is over; or a held
-- bucket is in its way, and nothing has changed
abbrev pub DoesPiece : View → (ℕ → FutexPhase) → ℕ → FutexCall → Thread → CallStep → Event → View → Type 0
DoesPiece v phases t call x (Next phase) event v' =
    Piece v.program (pieces_of v phases) t x [] (pieces_of v' (put phases t phase))
DoesPiece v phases t call x Blocked event v' = BlocksCall (pieces_of v phases) t (Some call) × (v' ≡ v)
DoesPiece v phases t call x Done event v' =
    (woken : List ℕ) × (moved : List ℕ) × (answer : ℕ) × (event ≡ event_of (call_name call) answer woken moved)
    × Piece v.program (pieces_of v phases) t x woken (pieces_of v' (put phases t First))

-- the step of thread t's exit in this phase would wake on a word whose bucket is held
abbrev pub IsHeldUp : ExitRule → List ℕ → Sleepers → ℕ → ExitPhase → Type 0
IsHeldUp rule words sleepers t phase =
    (a : ℕ) × (u : ℕ) × WakesOn rule (length words) t phase (word_of words) a
    × (holder_of sleepers (a % bucket_count sleepers) ≡ Some u)

-- the lists of sleepers behind a piece of a call: as before, or behind its act by their fronts, which its event tells;
-- and a call that goes on has its first piece behind it
abbrev pub QueuesSo : Sleepers → ℕ → FutexCall → FutexPhase → CallStep → Event → Sleepers → Type 0
QueuesSo s t call phase (Next next) event s' = (next ≢ First) × (queue s' ≡ queue s)
QueuesSo s t call phase Blocked event s' = queue s' ≡ queue s
QueuesSo s t call First Done event s' = ⊥
QueuesSo s t call Second Done event s' = ⊥
QueuesSo s t call Compare Done event s' =
    (queue s' ≡ queue s) × (event ≡ event_of (call_name call) (again_of call) [] [])
QueuesSo s t call Act Done event s' =
    (queue s' ≡ queue_by t call (queue s))
    × (event ≡ event_of (call_name call)
    (length (woken_by call (queue s)) + length (moved_by call (queue s))) (woken_by call (queue s))
    (moved_by call (queue s)))
