-- The lists of sleepers behind a piece of a call.
use Rattle.std.proofs.Common.{◌≡◌, ◌≢◌, ℕ, ◌+◌, ◌%◌, ◌==◌, Bool, true, false, Option, Some, None, length, refl, sym, ap}
use Rattle.std.proofs.Common.{◌∙◌, subst}
use Rattle.std.specs.Prelude.{if◌then◌else◌}
use Rattle.machine.specs.declared.event.Event.{Event}
use Rattle.buckets.specs.Sleepers.{Sleepers, queue, bucket_count}
use Rattle.futexcalls.specs.Answers.{word_of}
use Rattle.futexcalls.specs.declared.pieces.FutexCall.{FutexCall}
use Rattle.futexcalls.specs.declared.pieces.FutexCall.TheVariants.{Wait, Wake, Requeue}
use Rattle.futexcalls.specs.declared.pieces.FutexPhase.{FutexPhase}
use Rattle.futexcalls.specs.declared.pieces.FutexPhase.TheVariants.{First, Second, Compare, Act}
use Rattle.futexcalls.specs.Progress.{Again, Acted, PieceProgress, Next, Blocked, Done}
use Rattle.futexcalls.specs.Pieces.{takes_at, after_lock}
use Rattle.futexcalls.specs.PieceResults.{PieceSo, TakesSo, ComparesSo, ActSo, answer_of}
use Rattle.machine.specs.ConcretePieces.{QueuesSo, call_name, woken_in, moved_in}
use Rattle.machine.specs.ConcreteServing.{event_of}
use Rattle.machine.specs.declared.call_step.CallStep.TheVariants as step
use Rattle.machine.specs.declared.call_step.CallProgress.TheVariants as common
use Rattle.machine.specs.Views.{View}
use Rattle.machine.proofs.CallPieces.{Told, next_told, blocked_told, done_told}

-- the same of what comes of the piece
abbrev OrderBy : Sleepers → ℕ → FutexCall → FutexPhase → PieceProgress → Sleepers → Type 0
OrderBy s t call phase (Next next) s' = (next ≢ First) × (queue s' ≡ queue s)
OrderBy s t call phase Blocked s' = queue s' ≡ queue s
OrderBy s t call phase (Done answer) s' =
    QueuesSo s t call phase step.Done
    (event_of (call_name call) (answer_of call answer) (woken_in answer) (moved_in answer)) s'

-- behind a bucket the call goes on
goes_on : (n : ℕ) (call : FutexCall) → (after_lock n First call ≢ First) × (after_lock n Second call ≢ First)
goes_on n (Wait a expected) = (λ e. cc, λ e. cc)
goes_on n (Wake a wakes) = (λ e. cc, λ e. cc)
goes_on n (Requeue a b wakes moves expected) = (by_test (a.0 % n == b.0 % n), λ e. cc)
  where
    by_test : (same : Bool) → (if same then Compare else Second) ≢ First
    by_test true e = cc
    by_test false e = cc

takes_order : (s s' : Sleepers) (t : ℕ) (call : FutexCall) (phase next : FutexPhase) (o : Option ℕ) (progress : PieceProgress)
    → next ≢ First → TakesSo t o next s progress s' → OrderBy s t call phase progress s'
takes_order s s' t call phase next None progress later h = absurd h
takes_order s s' t call phase next (Some b) (Next n) later h = (λ e. later (sym h.0 ∙ e), h.2.queues)
takes_order s s' t call phase next (Some b) Blocked later h = ap queue h.2
takes_order s s' t call phase next (Some b) (Done answer) later h = absurd h

compares_order : (s s' : Sleepers) (t : ℕ) (word : ℕ → ℕ) (call : FutexCall) (a expected : ℕ) (progress : PieceProgress)
    → ComparesSo word call a expected s progress s' → OrderBy s t call Compare progress s'
compares_order s s' t word call a expected (Next n) h = (λ e. let no : Act ≡ First = sym h.1 ∙ e in cc, ap queue h.2)
compares_order s s' t word call a expected (Done Again) h = (h.1.queues, refl)
compares_order s s' t word call a expected (Done (Acted r)) h = absurd h
compares_order s s' t word call a expected Blocked h = absurd h

acts_order : (s s' : Sleepers) (t : ℕ) (call : FutexCall) (progress : PieceProgress) → ActSo t call s progress s'
    → OrderBy s t call Act progress s'
acts_order s s' t call (Next n) h = absurd h
acts_order s s' t call Blocked h = absurd h
acts_order s s' t call (Done Again) h = absurd h
acts_order s s' t call (Done (Acted r)) h = (
  h.queues,
  λ i. event_of (call_name call) (length (h.woken_is i) + length (h.moved_is i)) (h.woken_is i) (h.moved_is i),
)

piece_order : (s s' : Sleepers) (t : ℕ) (word : ℕ → ℕ) (call : FutexCall) (phase : FutexPhase) (progress : PieceProgress)
    → PieceSo word t call phase s progress s' → OrderBy s t call phase progress s'
piece_order s s' t word call First progress h =
    takes_order s s' t call First (after_lock (bucket_count s) First call) (takes_at (bucket_count s) First call)
    progress (goes_on (bucket_count s) call).0 h
piece_order s s' t word call Second progress h =
    takes_order s s' t call Second (after_lock (bucket_count s) Second call) (takes_at (bucket_count s) Second call)
    progress (goes_on (bucket_count s) call).1 h
piece_order s s' t word (Wait a expected) Compare progress h =
    compares_order s s' t word (Wait a expected) a.0 expected progress h
piece_order s s' t word (Wake a wakes) Compare progress h = absurd h
piece_order s s' t word (Requeue a b wakes moves expected) Compare progress h =
    compares_order s s' t word (Requeue a b wakes moves expected) a.0 expected progress h
piece_order s s' t word call Act progress h = acts_order s s' t call progress h

pub next_order : (v v' : View) (t : ℕ) (call : FutexCall) (phase next : FutexPhase) (event : Event)
    → Told v t call phase (common.Next next) event v'
    → QueuesSo v.sleepers t call phase (step.Next next) event v'.sleepers
next_order v v' t call phase next event h =
    piece_order v.sleepers v'.sleepers t (word_of v.words) call phase (Next next)
    (subst (λ (q : PieceProgress). PieceSo (word_of v.words) t call phase v.sleepers q v'.sleepers)
    (next_told call h.0 next event h.2) h.1)

pub blocked_order : (v v' : View) (t : ℕ) (call : FutexCall) (phase : FutexPhase) (event : Event)
    → Told v t call phase common.Blocked event v'
    → QueuesSo v.sleepers t call phase step.Blocked event v'.sleepers
blocked_order v v' t call phase event h =
    piece_order v.sleepers v'.sleepers t (word_of v.words) call phase Blocked
    (subst (λ (q : PieceProgress). PieceSo (word_of v.words) t call phase v.sleepers q v'.sleepers)
    (blocked_told call h.0 event h.2) h.1)

pub done_order : (v v' : View) (t : ℕ) (call : FutexCall) (phase : FutexPhase) (answer : ℕ) (event : Event)
    → Told v t call phase (common.Done answer) event v'
    → QueuesSo v.sleepers t call phase step.Done event v'.sleepers
done_order v v' t call phase answer event h =
    let d = done_told call h.0 answer event h.2 in
    subst (λ (e : Event). QueuesSo v.sleepers t call phase step.Done e v'.sleepers) (sym d.3)
    (piece_order v.sleepers v'.sleepers t (word_of v.words) call phase (Done d.0)
    (subst (λ (q : PieceProgress). PieceSo (word_of v.words) t call phase v.sleepers q v'.sleepers) d.1 h.1))
