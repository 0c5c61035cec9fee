-- What comes of a piece of a futex call: which piece the call stands before then, or its answer; and what the sleepers and
-- the holders are.
use Rattle.std.specs.Prelude.{◌≡◌, ◌≢◌, ℕ, ◌+◌, ◌==◌, ◌++◌, if◌then◌else◌, Option, Some, None, List, [], ◌∷◌, length}
use Rattle.std.specs.Prelude.{take, drop}
use Rattle.words.specs.Updates.{put}
use Rattle.buckets.specs.Places.{with_place}
use Rattle.buckets.specs.Sleepers.{Sleepers, queue, place_of, bucket_count, holder_of}
use Rattle.futexcalls.specs.declared.pieces.FutexCall.{FutexCall}
use Rattle.futexcalls.specs.declared.pieces.FutexCall.TheVariants.{Wait, Wake, Requeue}
use Rattle.futexcalls.specs.declared.pieces.FutexPhase.{FutexPhase}
use Rattle.futexcalls.specs.declared.pieces.FutexPhase.TheVariants.{First, Second, Compare, Act}
use Rattle.futexcalls.specs.Progress.{PieceAnswer, Again, Acted, PieceProgress, Next, Blocked, Done}
use Rattle.futexcalls.specs.Pieces.{buckets_of, takes_at, after_lock, again_of, Acts}

-- the sleepers are as before, in each list, and these threads hold the buckets
pub record OnlyHolders (s s' : Sleepers) (held : ℕ → Option ℕ) : Type 0 where
  pub queues : queue s' ≡ queue s
  pub places : place_of s' ≡ place_of s
  pub holders : holder_of s' ≡ held

-- the holders once a call has given up its buckets
abbrev pub given_up : FutexCall → Sleepers → ℕ → Option ℕ
given_up call s = with_place (holder_of s) (buckets_of (bucket_count s) call) None

-- t takes a bucket, behind which its call stands before this piece; or another thread holds it
abbrev pub TakesSo : ℕ → Option ℕ → FutexPhase → Sleepers → PieceProgress → Sleepers → Type 0
TakesSo t None next s progress s' = ⊥
TakesSo t (Some b) next s (Next phase) s' =
    (phase ≡ next) × (holder_of s b ≡ None) × OnlyHolders s s' (put (holder_of s) b (Some t))
TakesSo t (Some b) next s Blocked s' = (u : ℕ) × (holder_of s b ≡ Some u) × (s' ≡ s)
TakesSo t (Some b) next s (Done answer) s' = ⊥

-- the word at a is compared: the call stands before its act, or is over
abbrev pub ComparesSo : (ℕ → ℕ) → FutexCall → ℕ → ℕ → Sleepers → PieceProgress → Sleepers → Type 0
ComparesSo word call a expected s (Next phase) s' = (word a ≡ expected) × (phase ≡ Act) × (s' ≡ s)
ComparesSo word call a expected s (Done Again) s' = (word a ≢ expected) × OnlyHolders s s' (given_up call s)
ComparesSo word call a expected s (Done (Acted r)) s' = ⊥
ComparesSo word call a expected s Blocked s' = ⊥

abbrev pub CompareSo : (ℕ → ℕ) → FutexCall → Sleepers → PieceProgress → Sleepers → Type 0
CompareSo word (Wait a expected) s progress s' = ComparesSo word (Wait a expected) a.0 expected s progress s'
CompareSo word (Wake a wakes) s progress s' = ⊥
CompareSo word (Requeue a b wakes moves expected) s progress s' =
    ComparesSo word (Requeue a b wakes moves expected) a.0 expected s progress s'

-- whom an act wakes, and whom it moves: the front of the word's list, and the front of what is left of it
abbrev pub woken_by : FutexCall → (ℕ → List ℕ) → List ℕ
woken_by (Wait a expected) q = []
woken_by (Wake a wakes) q = take wakes (q a.0)
woken_by (Requeue a b wakes moves expected) q = take wakes (q a.0)

abbrev pub moved_by : FutexCall → (ℕ → List ℕ) → List ℕ
moved_by (Wait a expected) q = []
moved_by (Wake a wakes) q = []
moved_by (Requeue a b wakes moves expected) q = if a.0 == b.0 then [] else take moves (drop wakes (q a.0))

-- the lists behind it
abbrev pub moved_on : (ℕ → List ℕ) → ℕ → ℕ → ℕ → ℕ → List ℕ
moved_on q a b n = if a == b then q else put (put q a (drop n (q a))) b (q b ++ take n (q a))

abbrev pub queue_by : ℕ → FutexCall → (ℕ → List ℕ) → ℕ → List ℕ
queue_by t (Wait a expected) q = put q a.0 (q a.0 ++ t ∷ [])
queue_by t (Wake a wakes) q = put q a.0 (drop wakes (q a.0))
queue_by t (Requeue a b wakes moves expected) q = moved_on (put q a.0 (drop wakes (q a.0))) a.0 b.0 moves

-- the act is done, as a choice that the definition of the calls allows
pub record IsActed (t : ℕ) (call : FutexCall) (s : Sleepers) (woken moved : List ℕ) (s' : Sleepers) : Type 0 where
  pub acts : Acts t call (place_of s) woken moved (place_of s')
  pub woken_is : woken ≡ woken_by call (queue s)
  pub moved_is : moved ≡ moved_by call (queue s)
  pub queues : queue s' ≡ queue_by t call (queue s)
  pub holders : holder_of s' ≡ given_up call s

abbrev pub ActSo : ℕ → FutexCall → Sleepers → PieceProgress → Sleepers → Type 0
ActSo t call s (Next phase) s' = ⊥
ActSo t call s Blocked s' = ⊥
ActSo t call s (Done Again) s' = ⊥
ActSo t call s (Done (Acted r)) s' = IsActed t call s r.woken r.moved s'

-- what the thread of a call is answered
abbrev pub answer_of : FutexCall → PieceAnswer → ℕ
answer_of call Again = again_of call
answer_of call (Acted r) = length r.woken + length r.moved

-- what comes of the piece in this phase of thread t's call
abbrev pub PieceSo : (ℕ → ℕ) → ℕ → FutexCall → FutexPhase → Sleepers → PieceProgress → Sleepers → Type 0
PieceSo word t call First s progress s' =
    TakesSo t (takes_at (bucket_count s) First call) (after_lock (bucket_count s) First call) s progress s'
PieceSo word t call Second s progress s' =
    TakesSo t (takes_at (bucket_count s) Second call) (after_lock (bucket_count s) Second call) s progress s'
PieceSo word t call Compare s progress s' = CompareSo word call s progress s'
PieceSo word t call Act s progress s' = ActSo t call s progress s'
