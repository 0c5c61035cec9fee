-- A piece of a futex call as the code takes it is a step of the machine with pieces, and keeps what always holds.
use Rattle.std.proofs.Common.{◌≡◌, ℕ, ◌+◌, ◌-◌, ◌≤◌, ◌==◌, Bool, true, false, Option, Some, None, List, []}
use Rattle.std.proofs.Common.{◌∷◌, length, slice_set, refl, sym, ap, subst, ◌∙◌, ◌⊎◌, inl, inr, arith, length-set}
use Rattle.std.specs.Prelude.{slice_index, if◌then◌else◌}
use Rattle.std.proofs.lemmas.Bool.{cases_eq, eqb-true, or_cases}
use Rattle.words.specs.Limits.{most_threads}
use Rattle.words.specs.Updates.{put}
use Rattle.buckets.specs.Places.{names, with_place}
use Rattle.isa.specs.Programs.{Program}
use Rattle.std.specs.List.{All}
use Rattle.buckets.specs.Sleepers.{Sleepers, queue, place_of, thread_count, bucket_count, holder_of, IsSound}
use Rattle.futexcalls.specs.Answers.{word_of}
use Rattle.futexcalls.specs.declared.pieces.FutexCall.{FutexCall}
use Rattle.futexcalls.specs.declared.pieces.FutexCall.TheVariants.{Wait, Wake, Requeue}
use Rattle.futexcalls.specs.declared.pieces.FutexPhase.{FutexPhase}
use Rattle.futexcalls.specs.declared.pieces.FutexPhase.TheVariants.{First, Second, Compare, Act}
use Rattle.futexcalls.specs.Progress.{PieceAnswer, Again, Acted, PieceProgress, Next, Blocked, Done}
use Rattle.futexcalls.specs.Pieces.{buckets_of, takes_at, after_lock, again_of, LiesIn, Compares, Acts}
use Rattle.futexcalls.specs.PieceResults.{PieceSo, TakesSo, CompareSo, ComparesSo, ActSo, answer_of, given_up}
use Rattle.futexcalls.specs.PieceResults.{woken_by, moved_by}
use Rattle.locals.specs.Threads.{Thread}
use Rattle.locals.specs.Looks.{Asks, look}
use Rattle.locals.specs.Requests.{CanBeAnswered}
use Rattle.machine.specs.States.{thread_at, thread_of, state_of, with_sleepers}
use Rattle.machine.specs.PieceStates.{request_of}
use Rattle.machine.specs.PieceSteps.{Piece, BlocksCall, IsLock, IsEqual, IsAgain, IsAct, goes_outside}
use Rattle.machine.specs.ConcretePieces.{pieces_of, woken_in, moved_in, call_name, Tells, MakesCall, DoesPiece}
use Rattle.machine.specs.declared.call_step.CallStep.TheVariants as step
use Rattle.machine.specs.declared.call_step.CallProgress.{CallProgress}
use Rattle.machine.specs.declared.call_step.CallProgress.TheVariants as common
use Rattle.machine.specs.declared.event.Event.{Event}
use Rattle.machine.specs.ConcreteServing.{event_of}
use Rattle.machine.specs.ThreadSets.{IsThread}
use Rattle.machine.specs.Views.{View, concrete, IsWellFormed}
use Rattle.machine.proofs.Landing.{has_place}
use Rattle.machine.proofs.Placing.{threads_put}
use Rattle.machine.proofs.Queues.{sleepers_threads, moved_threads}

-- what a piece leaves of a machine but for its sleepers and its threads
pub record Keeps (v v' : View) : Type 0 where
  pub words : v'.words ≡ v.words
  pub output : v'.output ≡ v.output
  pub count : bucket_count v'.sleepers ≡ bucket_count v.sleepers
  pub most : thread_count v'.sleepers ≡ thread_count v.sleepers

-- the state behind a piece behind which the call goes on
stays : (v v' : View) (phases : ℕ → FutexPhase) (holder : ℕ → Option ℕ) → Keeps v v' → v'.threads ≡ v.threads
    → place_of v'.sleepers ≡ place_of v.sleepers → holder_of v'.sleepers ≡ holder
    → pieces_of v' phases ≡ record (pieces_of v phases) { holder = holder }
stays v v' phases holder k threads places holders = λ i. record {
  base = record {
    most = k.most i;
    word = λ a. slice_index (k.words i) a;
    size = length (k.words i);
    made = length (threads i);
    thread = λ u. thread_at (threads i) u;
    asleep = places i;
    output = k.output i;
  };
  phase = phases;
  holder = holders i;
  buckets = k.count i;
}

-- the state behind a piece by which the call is over
ends : (v v' : View) (phases : ℕ → FutexPhase) (t : ℕ) (x y : Thread) (after : ℕ → Option ℕ) (call : FutexCall)
    → Keeps v v' → thread_of (concrete v) t ≡ Some x → v'.threads ≡ slice_set v.threads (t - 1) y
    → place_of v'.sleepers ≡ after → holder_of v'.sleepers ≡ given_up call v.sleepers
    → pieces_of v' (put phases t First)
    ≡ goes_outside (pieces_of v phases) t (with_sleepers (state_of (concrete v)) after)
    (buckets_of (bucket_count v.sleepers) call) y
ends v v' phases t x y after call k stands threads places holders = λ i. record {
  base = record {
    most = k.most i;
    word = λ a. slice_index (k.words i) a;
    size = length (k.words i);
    made = (ap length threads ∙ length-set v.threads (t - 1) y) i;
    thread = λ u. (ap (λ (ts : List Thread). thread_at ts u) threads ∙ threads_put v.threads t y x stands u) i;
    asleep = places i;
    output = k.output i;
  };
  phase = put phases t First;
  holder = holders i;
  buckets = k.count i;
}

-- what a piece does
abbrev pub Does : View → (ℕ → FutexPhase) → ℕ → FutexCall → Thread → PieceProgress → View → Type 0
Does v phases t call x (Next phase) v' =
    Piece v.program (pieces_of v phases) t x [] (pieces_of v' (put phases t phase))
Does v phases t call x Blocked v' = BlocksCall (pieces_of v phases) t (Some call) × (v' ≡ v)
Does v phases t call x (Done answer) v' =
    Piece v.program (pieces_of v phases) t x (woken_in answer) (pieces_of v' (put phases t First))

-- the threads behind a piece: where the call is over, its thread has gone on with the answer
abbrev pub threads_behind : View → ℕ → FutexCall → (ℕ → Thread) → PieceProgress → List Thread
threads_behind v t call go (Next phase) = v.threads
threads_behind v t call go Blocked = v.threads
threads_behind v t call go (Done answer) = slice_set v.threads (t - 1) (go (answer_of call answer))

-- a bucket is taken
takes : (v v' : View) (phases : ℕ → FutexPhase) (t : ℕ) (call : FutexCall) (x : Thread) (go : ℕ → Thread)
    (o : Option ℕ) (progress : PieceProgress) → Keeps v v' → thread_of (concrete v) t ≡ Some x
    → look v.program t x ≡ Asks (request_of call) go → LiesIn (length v.words) call
    → takes_at (bucket_count v.sleepers) (phases t) call ≡ o → v'.threads ≡ threads_behind v t call go progress
    → (progress ≡ Blocked → v' ≡ v)
    → TakesSo t o (after_lock (bucket_count v.sleepers) (phases t) call) v.sleepers progress v'.sleepers
    → Does v phases t call x progress v'
takes v v' phases t call x go None progress k stands asks lies is threads blocked h = absurd h
takes v v' phases t call x go (Some b) (Next phase) k stands asks lies is threads blocked h =
    IsLock call go b asks lies is h.1 refl
    (stays v v' (put phases t phase) (put (holder_of v.sleepers) b (Some t)) k threads h.2.places h.2.holders
    ∙ (λ i. record (pieces_of v phases) {
      phase = put phases t (h.0 i);
      holder = put (holder_of v.sleepers) b (Some t);
    }))
takes v v' phases t call x go (Some b) Blocked k stands asks lies is threads blocked h =
    ((lies, b, h.0, is, h.1), blocked refl)
takes v v' phases t call x go (Some b) (Done answer) k stands asks lies is threads blocked h = absurd h

-- the word is compared
compares : (v v' : View) (phases : ℕ → FutexPhase) (t : ℕ) (call : FutexCall) (x : Thread) (go : ℕ → Thread)
    (a expected : ℕ) (progress : PieceProgress) → Keeps v v' → thread_of (concrete v) t ≡ Some x
    → look v.program t x ≡ Asks (request_of call) go → Compares call a expected → phases t ≡ Compare
    → v'.threads ≡ threads_behind v t call go progress
    → ComparesSo (word_of v.words) call a expected v.sleepers progress v'.sleepers
    → Does v phases t call x progress v'
compares v v' phases t call x go a expected (Next phase) k stands asks is at threads h =
    IsEqual call go a expected asks is at h.0 refl
    (stays v v' (put phases t phase) (holder_of v.sleepers) k threads (ap place_of h.2) (ap holder_of h.2)
    ∙ (λ i. record (pieces_of v phases) { phase = put phases t (h.1 i) }))
compares v v' phases t call x go a expected (Done Again) k stands asks is at threads h =
    IsAgain call go a expected asks is at h.0 refl
    (ends v v' phases t x (go (again_of call)) (place_of v.sleepers) call k stands threads h.1.places h.1.holders)
compares v v' phases t call x go a expected (Done (Acted r)) k stands asks is at threads h = absurd h
compares v v' phases t call x go a expected Blocked k stands asks is at threads h = absurd h

compare_any : (v v' : View) (phases : ℕ → FutexPhase) (t : ℕ) (call : FutexCall) (x : Thread) (go : ℕ → Thread)
    (progress : PieceProgress) → Keeps v v' → thread_of (concrete v) t ≡ Some x
    → look v.program t x ≡ Asks (request_of call) go → phases t ≡ Compare
    → v'.threads ≡ threads_behind v t call go progress
    → CompareSo (word_of v.words) call v.sleepers progress v'.sleepers → Does v phases t call x progress v'
compare_any v v' phases t (Wait a expected) x go progress k stands asks at threads h =
    compares v v' phases t (Wait a expected) x go a.0 expected progress k stands asks (refl, refl) at threads h
compare_any v v' phases t (Wake a wakes) x go progress k stands asks at threads h = absurd h
compare_any v v' phases t (Requeue a b wakes moves expected) x go progress k stands asks at threads h =
    compares v v' phases t (Requeue a b wakes moves expected) x go a.0 expected progress k stands asks
    (refl, refl) at threads h

-- the call acts
acts : (v v' : View) (phases : ℕ → FutexPhase) (t : ℕ) (call : FutexCall) (x : Thread) (go : ℕ → Thread)
    (progress : PieceProgress) → Keeps v v' → thread_of (concrete v) t ≡ Some x
    → look v.program t x ≡ Asks (request_of call) go → phases t ≡ Act
    → v'.threads ≡ threads_behind v t call go progress → ActSo t call v.sleepers progress v'.sleepers
    → Does v phases t call x progress v'
acts v v' phases t call x go (Next phase) k stands asks at threads h = absurd h
acts v v' phases t call x go Blocked k stands asks at threads h = absurd h
acts v v' phases t call x go (Done Again) k stands asks at threads h = absurd h
acts v v' phases t call x go (Done (Acted r)) k stands asks at threads h =
    IsAct call go r.moved (place_of v'.sleepers) asks at h.acts
    (ends v v' phases t x (go (length r.woken + length r.moved)) (place_of v'.sleepers) call k stands threads refl
    h.holders)

-- each piece
pub does_piece : (v v' : View) (phases : ℕ → FutexPhase) (t : ℕ) (call : FutexCall) (phase : FutexPhase) (x : Thread)
    (go : ℕ → Thread) (progress : PieceProgress) → Keeps v v' → thread_of (concrete v) t ≡ Some x
    → look v.program t x ≡ Asks (request_of call) go → LiesIn (length v.words) call → phases t ≡ phase
    → v'.threads ≡ threads_behind v t call go progress → (progress ≡ Blocked → v' ≡ v)
    → PieceSo (word_of v.words) t call phase v.sleepers progress v'.sleepers → Does v phases t call x progress v'
does_piece v v' phases t call First x go progress k stands asks lies at threads blocked h =
    takes v v' phases t call x go (takes_at (bucket_count v.sleepers) First call) progress k stands asks lies
    (ap (λ f. takes_at (bucket_count v.sleepers) f call) at) threads blocked
    (rw at h)
does_piece v v' phases t call Second x go progress k stands asks lies at threads blocked h =
    takes v v' phases t call x go (takes_at (bucket_count v.sleepers) Second call) progress k stands asks lies
    (ap (λ f. takes_at (bucket_count v.sleepers) f call) at) threads blocked
    (rw at h)
does_piece v v' phases t call Compare x go progress k stands asks lies at threads blocked h =
    compare_any v v' phases t call x go progress k stands asks at threads h
does_piece v v' phases t call Act x go progress k stands asks lies at threads blocked h =
    acts v v' phases t call x go progress k stands asks at threads h

-- who sleeps behind a piece is the thread of the call, or slept before
abbrev pub OnlySleeps : ℕ → (ℕ → Option ℕ) → (ℕ → Option ℕ) → Type 0
OnlySleeps t before after = (u a : ℕ) → after u ≡ Some a → (u ≡ t) ⊎ ((b : ℕ) × (before u ≡ Some b))

same_sleep : (t : ℕ) (before after : ℕ → Option ℕ) → after ≡ before → OnlySleeps t before after
same_sleep t before after e u a h = inr (a, ap (λ f. f u) (sym e) ∙ h)

-- those of a list have another place
placed_sleep : (t : ℕ) (before : ℕ → Option ℕ) (xs : List ℕ) (place : Option ℕ)
    → ((u a : ℕ) → names xs u ≡ true → place ≡ Some a → (u ≡ t) ⊎ ((b : ℕ) × (before u ≡ Some b)))
    → OnlySleeps t before (with_place before xs place)
placed_sleep t before xs place some u a h = by_test (names xs u) refl h
  where
    by_test : (b : Bool) → names xs u ≡ b → (if b then place else before u) ≡ Some a
        → (u ≡ t) ⊎ ((b : ℕ) × (before u ≡ Some b))
    by_test true q h = some u a q h
    by_test false q h = inr (a, h)

only_one : (t u : ℕ) → names (t ∷ []) u ≡ true → u ≡ t
only_one t u y = elim (or_cases (u == t) false y) [ inl e ↦ eqb-true u t e | inr f ↦ absurd cc ]

then_sleep : (t : ℕ) (before mid after : ℕ → Option ℕ) → OnlySleeps t before mid → OnlySleeps t mid after
    → OnlySleeps t before after
then_sleep t before mid after first second u a h = elim (second u a h) [ inl e ↦ inl e | inr s ↦ first u s.0 s.1 ]

acts_sleep : (t : ℕ) (call : FutexCall) (before : ℕ → Option ℕ) (woken moved : List ℕ) (after : ℕ → Option ℕ)
    → Acts t call before woken moved after → OnlySleeps t before after
acts_sleep t (Wait a expected) before woken moved after h =
    rw h.2 (placed_sleep t before (t ∷ []) (Some a.0) (λ u b y e. inl (only_one t u y)))
acts_sleep t (Wake a wakes) before woken moved after h =
    rw h.1.awake (placed_sleep t before woken None (λ u b y e. absurd cc))
acts_sleep t (Requeue a b wakes moves expected) before woken moved after h =
    let mid : ℕ → Option ℕ = with_place before woken None in
    then_sleep t before mid after (placed_sleep t before woken None (λ u d y e. absurd cc))
    (rw h.moves.goes (placed_sleep t mid moved (Some b.0) (λ u d y e. elim (cases_eq a.0 b.0) [
      | inl q ↦ absurd (let none : names [] u ≡ true = ap (λ xs. names xs u) (sym (h.moves.none q)) ∙ y in cc)
      | inr ne ↦ inr (a.0, (h.moves.choice ne).slept u y)
    ])))

takes_sleep : (t : ℕ) (o : Option ℕ) (next : FutexPhase) (s s' : Sleepers) (progress : PieceProgress)
    → TakesSo t o next s progress s' → OnlySleeps t (place_of s) (place_of s')
takes_sleep t None next s s' progress h = absurd h
takes_sleep t (Some b) next s s' (Next phase) h = same_sleep t (place_of s) (place_of s') h.2.places
takes_sleep t (Some b) next s s' Blocked h = same_sleep t (place_of s) (place_of s') (ap place_of h.2)
takes_sleep t (Some b) next s s' (Done answer) h = absurd h

compares_sleep : (t : ℕ) (word : ℕ → ℕ) (call : FutexCall) (a expected : ℕ) (s s' : Sleepers)
    (progress : PieceProgress) → ComparesSo word call a expected s progress s'
    → OnlySleeps t (place_of s) (place_of s')
compares_sleep t word call a expected s s' (Next phase) h = same_sleep t (place_of s) (place_of s') (ap place_of h.2)
compares_sleep t word call a expected s s' (Done Again) h = same_sleep t (place_of s) (place_of s') h.1.places
compares_sleep t word call a expected s s' (Done (Acted r)) h = absurd h
compares_sleep t word call a expected s s' Blocked h = absurd h

compare_sleep : (t : ℕ) (word : ℕ → ℕ) (call : FutexCall) (s s' : Sleepers) (progress : PieceProgress)
    → CompareSo word call s progress s' → OnlySleeps t (place_of s) (place_of s')
compare_sleep t word (Wait a expected) s s' progress h =
    compares_sleep t word (Wait a expected) a.0 expected s s' progress h
compare_sleep t word (Wake a wakes) s s' progress h = absurd h
compare_sleep t word (Requeue a b wakes moves expected) s s' progress h =
    compares_sleep t word (Requeue a b wakes moves expected) a.0 expected s s' progress h

act_sleep : (t : ℕ) (call : FutexCall) (s s' : Sleepers) (progress : PieceProgress) → ActSo t call s progress s'
    → OnlySleeps t (place_of s) (place_of s')
act_sleep t call s s' (Next phase) h = absurd h
act_sleep t call s s' Blocked h = absurd h
act_sleep t call s s' (Done Again) h = absurd h
act_sleep t call s s' (Done (Acted r)) h = acts_sleep t call (place_of s) r.woken r.moved (place_of s') h.acts

pub piece_sleep : (t : ℕ) (word : ℕ → ℕ) (call : FutexCall) (phase : FutexPhase) (s s' : Sleepers)
    (progress : PieceProgress) → PieceSo word t call phase s progress s' → OnlySleeps t (place_of s) (place_of s')
piece_sleep t word call First s s' progress h = takes_sleep t _ _ s s' progress h
piece_sleep t word call Second s s' progress h = takes_sleep t _ _ s s' progress h
piece_sleep t word call Compare s s' progress h = compare_sleep t word call s s' progress h
piece_sleep t word call Act s s' progress h = act_sleep t call s s' progress h

-- what always holds is kept
pub piece_well : (p : Program) (v v' : View) (t : ℕ) → IsWellFormed p (concrete v) → Keeps v v'
    → length v'.threads ≡ length v.threads → 1 ≤ t → t ≤ length v.threads → IsSound v'.sleepers
    → OnlySleeps t (place_of v.sleepers) (place_of v'.sleepers) → IsWellFormed p (concrete v')
piece_well p v v' t concrete k long some few sound only = record {
  sized = ap length k.words ∙ concrete.sized;
  some = omega (arith, long, concrete.some);
  most = k.most ∙ concrete.most;
  fits = omega (arith, k.most, concrete.fits);
  few = omega (arith, long, k.most, concrete.few);
  agree = sound.agree;
  made = λ u a e. elim (only u a e) [
    | inl q ↦ (omega (arith, q, some), omega (arith, q, few, long))
    | inr s ↦ let r = concrete.made u s.0 s.1 in (r.0, omega (arith, r.1, long))
  ];
}

-- as many threads are there as before
pub long_behind : (v : View) (t : ℕ) (call : FutexCall) (go : ℕ → Thread) (progress : PieceProgress)
    → length (threads_behind v t call go progress) ≡ length v.threads
long_behind v t call go (Next phase) = refl
long_behind v t call go Blocked = refl
long_behind v t call go (Done answer) = length-set v.threads (t - 1) (go (answer_of call answer))

-- what those who share the memory are told
pub next_told : (call : FutexCall) (progress : PieceProgress) (phase : FutexPhase) (event : Event)
    → Tells call progress (common.Next phase) event → progress ≡ Next phase
next_told call (Next p) phase event h = ap Next h
next_told call Blocked phase event h = absurd h
next_told call (Done answer) phase event h = absurd h

pub blocked_told : (call : FutexCall) (progress : PieceProgress) (event : Event)
    → Tells call progress common.Blocked event → progress ≡ Blocked
blocked_told call (Next p) event h = absurd h
blocked_told call Blocked event h = refl
blocked_told call (Done answer) event h = absurd h

pub done_told : (call : FutexCall) (progress : PieceProgress) (value : ℕ) (event : Event)
    → Tells call progress (common.Done value) event
    → (answer : PieceAnswer) × (progress ≡ Done answer) × (value ≡ answer_of call answer)
    × (event ≡ event_of (call_name call) (answer_of call answer) (woken_in answer) (moved_in answer))
done_told call (Next p) value event h = absurd h
done_told call Blocked value event h = absurd h
done_told call (Done answer) value event h = (answer, refl, h.0, h.1)

none_threads : All IsThread []
none_threads k d l = absurd (omega arith)

-- who is woken or moved is a thread
front_threads : (s : Sleepers) (call : FutexCall) → IsSound s → thread_count s ≤ most_threads
    → All IsThread (woken_by call (queue s)) × All IsThread (moved_by call (queue s))
front_threads s (Wait a expected) ok count = (none_threads, none_threads)
front_threads s (Wake a wakes) ok count = (sleepers_threads s a.0 wakes ok count, none_threads)
front_threads s (Requeue a b wakes moves expected) ok count = (
  sleepers_threads s a.0 wakes ok count,
  moved_threads s a.0 b.0 wakes moves _ ok count refl,
)

pub answer_threads : (s s' : Sleepers) (word : ℕ → ℕ) (t : ℕ) (call : FutexCall) (phase : FutexPhase)
    (answer : PieceAnswer) → IsSound s → thread_count s ≤ most_threads
    → PieceSo word t call phase s (Done answer) s' → All IsThread (woken_in answer) × All IsThread (moved_in answer)
answer_threads s s' word t call phase Again ok count h = (none_threads, none_threads)
answer_threads s s' word t call Act (Acted r) ok count h =
    let f = front_threads s call ok count in (rw h.woken_is f.0, rw h.moved_is f.1)
answer_threads s s' word t call First (Acted r) ok count h = absurd (no_take _ h)
  where
    no_take : (o : Option ℕ) → TakesSo t o (after_lock (bucket_count s) First call) s (Done (Acted r)) s' → ⊥
    no_take None h = h
    no_take (Some b) h = h
answer_threads s s' word t call Second (Acted r) ok count h = absurd (no_take _ h)
  where
    no_take : (o : Option ℕ) → TakesSo t o (after_lock (bucket_count s) Second call) s (Done (Acted r)) s' → ⊥
    no_take None h = h
    no_take (Some b) h = h
answer_threads s s' word t (Wait a expected) Compare (Acted r) ok count h = absurd h
answer_threads s s' word t (Wake a wakes) Compare (Acted r) ok count h = absurd h
answer_threads s s' word t (Requeue a b wakes moves expected) Compare (Acted r) ok count h = absurd h

-- a piece that was blocked leaves the sleepers as they are
pub blocked_same : (t : ℕ) (word : ℕ → ℕ) (call : FutexCall) (phase : FutexPhase) (s s' : Sleepers)
    → PieceSo word t call phase s Blocked s' → s' ≡ s
blocked_same t word call First s s' h = no_take _ h
  where
    no_take : (o : Option ℕ) → TakesSo t o (after_lock (bucket_count s) First call) s Blocked s' → s' ≡ s
    no_take None q = absurd q
    no_take (Some b) q = q.2
blocked_same t word call Second s s' h = no_take _ h
  where
    no_take : (o : Option ℕ) → TakesSo t o (after_lock (bucket_count s) Second call) s Blocked s' → s' ≡ s
    no_take None q = absurd q
    no_take (Some b) q = q.2
blocked_same t word (Wait a expected) Compare s s' h = absurd h
blocked_same t word (Wake a wakes) Compare s s' h = absurd h
blocked_same t word (Requeue a b wakes moves expected) Compare s s' h = absurd h
blocked_same t word call Act s s' h = absurd h

-- what those who share the memory were told of a piece
abbrev pub Told : View → ℕ → FutexCall → FutexPhase → CallProgress → Event → View → Type 0
Told v t call phase r event v' =
    (progress : PieceProgress) × PieceSo (word_of v.words) t call phase v.sleepers progress v'.sleepers
    × Tells call progress r event

one_thread : (x y : Thread) → Some x ≡ Some y → x ≡ y
one_thread x y h = cc

asks_of : (v : View) (t : ℕ) (call : FutexCall) (x : Thread) (m : MakesCall v t call)
    → thread_of (concrete v) t ≡ Some x → look v.program t x ≡ Asks (request_of call) m.go
asks_of v t call x m stands = ap (look v.program t) (one_thread x m.thread (sym stands ∙ m.stands)) ∙ m.asks

-- the call goes on to another piece
pub next_so : (v v' : View) (t : ℕ) (call : FutexCall) (phase next : FutexPhase) (event : Event)
    → MakesCall v t call → LiesIn (length v.words) call → Keeps v v' → v'.threads ≡ v.threads
    → Told v t call phase (common.Next next) event v' → (phases : ℕ → FutexPhase) (x : Thread) → phases t ≡ phase
    → thread_of (concrete v) t ≡ Some x → DoesPiece v phases t call x (step.Next next) event v'
next_so v v' t call phase next event m lies k threads h phases x at stands =
    does_piece v v' phases t call phase x m.go (Next next) k stands (asks_of v t call x m stands) lies at threads
    (λ e. absurd cc)
    (subst (λ (q : PieceProgress). PieceSo (word_of v.words) t call phase v.sleepers q v'.sleepers)
    (next_told call h.0 next event h.2) h.1)

-- a held bucket is in its way
pub blocked_so : (v v' : View) (t : ℕ) (call : FutexCall) (phase : FutexPhase) (event : Event) → MakesCall v t call
    → LiesIn (length v.words) call → Keeps v v' → v'.threads ≡ v.threads → v'.program ≡ v.program
    → (v'.sleepers ≡ v.sleepers → v' ≡ v) → Told v t call phase common.Blocked event v' → (phases : ℕ → FutexPhase)
    (x : Thread) → phases t ≡ phase → thread_of (concrete v) t ≡ Some x
    → DoesPiece v phases t call x step.Blocked event v'
blocked_so v v' t call phase event m lies k threads program same h phases x at stands =
    let piece = subst (λ (q : PieceProgress). PieceSo (word_of v.words) t call phase v.sleepers q v'.sleepers)
    (blocked_told call h.0 event h.2) h.1 in
    does_piece v v' phases t call phase x m.go Blocked k stands (asks_of v t call x m stands) lies at threads
    (λ e. same (blocked_same t (word_of v.words) call phase v.sleepers v'.sleepers piece)) piece

-- the call is over
pub done_so : (v v' : View) (t : ℕ) (call : FutexCall) (phase : FutexPhase) (answer : ℕ) (event : Event)
    (m : MakesCall v t call) → LiesIn (length v.words) call → Keeps v v'
    → v'.threads ≡ slice_set v.threads (t - 1) (m.go answer)
    → Told v t call phase (common.Done answer) event v' → (phases : ℕ → FutexPhase) (x : Thread) → phases t ≡ phase
    → thread_of (concrete v) t ≡ Some x → DoesPiece v phases t call x step.Done event v'
done_so v v' t call phase answer event m lies k threads h phases x at stands =
    let d = done_told call h.0 answer event h.2 in
    let piece = subst (λ (q : PieceProgress). PieceSo (word_of v.words) t call phase v.sleepers q v'.sleepers)
    d.1 h.1 in (
      woken_in d.0,
      moved_in d.0,
      answer_of call d.0,
      d.3,
      does_piece v v' phases t call phase x m.go (Done d.0) k stands (asks_of v t call x m stands) lies at
          (threads ∙ ap (λ a. slice_set v.threads (t - 1) (m.go a)) d.2) (λ e. absurd cc) piece,
    )

-- what always holds is kept by each piece
pub well_so : (v v' : View) (t : ℕ) (call : FutexCall) (phase : FutexPhase) (r : CallProgress) (event : Event)
    → MakesCall v t call → IsWellFormed v.program (concrete v) → Keeps v v'
    → length v'.threads ≡ length v.threads → IsSound v'.sleepers → Told v t call phase r event v'
    → IsWellFormed v.program (concrete v')
well_so v v' t call phase r event m concrete' k long sound h =
    let place = has_place v.program (concrete v) t m.thread concrete' m.stands in
    piece_well v.program v v' t concrete' k long place.some place.few sound
    (piece_sleep t (word_of v.words) call phase v.sleepers v'.sleepers h.0 h.1)

-- each answer can be given to a call
pub can_be_answered : (call : FutexCall) (go : ℕ → Thread) (answer : ℕ)
    → CanBeAnswered (Asks (request_of call) go) answer
can_be_answered (Wait a expected) go answer = tt
can_be_answered (Wake a wakes) go answer = tt
can_be_answered (Requeue a b wakes moves expected) go answer = tt
