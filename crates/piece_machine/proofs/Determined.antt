-- The one step of a thread is one of the relation, and is refused exactly where the relation has none.
use Rattle.std.proofs.Common.{◌≡◌, ◌≢◌, ℕ, ◌-◌, false, List, [], length}
use Rattle.std.proofs.Common.{Some, None, Ok, slice_set, refl, sym, ap, ◌∙◌, subst, arith}
use Rattle.std.proofs.Common.{length-set}
use Rattle.std.specs.Prelude.{slice_index}
use Rattle.std.proofs.Math.Path.{fun_ext}
use Rattle.words.specs.Updates.{put}
use Rattle.isa.specs.Programs.{Program}
use Rattle.buckets.specs.Places.{with_place}
use Rattle.futexcalls.specs.declared.pieces.FutexCall.{FutexCall}
use Rattle.futexcalls.specs.declared.pieces.FutexCall.TheVariants.{Wait, Wake, Requeue}
use Rattle.futexcalls.specs.declared.pieces.FutexPhase.{FutexPhase}
use Rattle.futexcalls.specs.declared.pieces.FutexPhase.TheVariants.{First, Compare, Act}
use Rattle.futexcalls.specs.Pieces.{buckets_of, takes_at, after_lock, again_of, Compares}
use Rattle.futexcalls.specs.PieceResults.{woken_by, moved_by}
use Rattle.robustexit.specs.ExitRules.{exit_of}
use Rattle.locals.specs.Threads.{Thread}
use Rattle.locals.specs.Looks.{look}
use Rattle.machine.specs.declared.event.Event.{Event}
use Rattle.machine.specs.declared.event.EventName.{EventName}
use Rattle.machine.specs.declared.event.EventName.TheVariants as name
use Rattle.machine.specs.States.{Common, ConcreteState, thread_of, state_of, with_thread, with_sleepers}
use Rattle.machine.specs.Runs.{Moves, Own}
use Rattle.machine.specs.ConcreteServing.{load, event_of, plain}
use Rattle.machine.specs.ConcreteSteps.{step_of}
use Rattle.machine.specs.ConcretePieces.{call_name, is_piece}
use Rattle.machine.specs.FrontRuns.{doing_of}
use Rattle.machine.specs.PieceStates.{PieceState}
use Rattle.machine.specs.PieceSteps.{goes_outside, IsLock, IsEqual, IsAgain, IsAct}
use Rattle.machine.specs.Views.{IsWellFormed}
use Rattle.machine.proofs.Placing.{threads_put, put-here}
use Rattle.machine.proofs.Keeping.{Holds, holds-concrete, keeps}
use Rattle.machine.proofs.Landing.{has_place}
use Rattle.machine.proofs.OwnEvents.{own_so, whole_so}
use Rattle.machine.proofs.Stepping.{steps_so}
use Rattle.proof_pieces.proofs.Runs.{held_kept}
use Rattle.piece_machine.specs.PieceViews.{Steps, Tells, IsApart, own_step, expected_of}
use Rattle.piece_machine.specs.PieceConcrete.{PieceConcrete, pieces_at, over_at, places_by, acted}
use Rattle.piece_machine.specs.PieceTaken.{Calls, Taken, WholeStep, BucketTaken, WordFound, WordDiffers, CallActs}
use Rattle.piece_machine.specs.PieceTaken.{touched}
use Rattle.piece_machine.specs.PieceDetermined.{IsFit, PieceStepsSo}
use Rattle.piece_machine.proofs.Cases.{taken_so}
use Rattle.piece_machine.proofs.OwnCalls.{one_thread, called_is}
use Rattle.piece_machine.proofs.Owns.{apart_first, whole_is_piece}
use Rattle.piece_machine.proofs.Acted.{acted_holds, acted_so}

-- what is asked of a step that is done
abbrev pub Done : Program → PieceConcrete → ℕ → PieceConcrete × Event → Type 0
Done p k t q = Steps p (pieces_at k) t q.1 (pieces_at q.0) × IsFit p q.0

-- a step of the relation keeps what always holds
fits : (p : Program) (k k' : PieceConcrete) (t : ℕ) (e : Event) → IsFit p k → IsWellFormed p k'.concrete
    → Steps p (pieces_at k) t e (pieces_at k') → Done p k t (k', e)
fits p k k' t e fit well s = (
  s,
  record {
    well = well;
    right = held_kept p (pieces_at k) (pieces_at k') (own_step (pieces_at k') t s.woken) fit.right s.step;
  },
)

-- what an event tells that is told of no piece
tells_outside : (p : Program) (s : PieceState) (t : ℕ) (woken : List ℕ) (s' : PieceState) (n : EventName) (v : ℕ)
    → is_piece n ≡ false → s'.phase t ≡ First → Tells p s t woken s' n v
tells_outside p s t woken s' name.FutexLock v other outside = absurd cc
tells_outside p s t woken s' name.FutexCompare v other outside = absurd cc
tells_outside p s t woken s' _ v other outside = outside

-- an event of a call that is over
call_own : (call : FutexCall) (v : ℕ) → doing_of (call_name call) v ≡ Own
call_own (Wait a expected) v = refl
call_own (Wake a wakes) v = refl
call_own (Requeue a b wakes moves expected) v = refl

call_tells : (p : Program) (s : PieceState) (t : ℕ) (woken : List ℕ) (s' : PieceState) (call : FutexCall) (v : ℕ)
    → s'.phase t ≡ First → Tells p s t woken s' (call_name call) v
call_tells p s t woken s' (Wait a expected) v outside = outside
call_tells p s t woken s' (Wake a wakes) v outside = outside
call_tells p s t woken s' (Requeue a b wakes moves expected) v outside = outside

pub whole_done : (p : Program) (k : PieceConcrete) (c : ConcreteState) (t : ℕ) (e : Event) → IsFit p k
    → IsApart p (pieces_at k) t → step_of p k.concrete t ≡ Ok (c, e)
    → Done p k t (record k { concrete = c }, e)
whole_done p k c t e fit apart done =
    let r = steps_so p k.concrete c t e fit.well done in
    let same : r.2.thread ≡ apart.thread = one_thread _ _ (sym r.2.stands ∙ apart.stands) in
    let first = apart_first p (pieces_at k) t apart.thread fit.right apart.stands apart.none in
    fits p k (record k { concrete = c }) t e fit r.3 (record {
      woken = r.0;
      step = record {
        thread = apart.thread;
        stands = apart.stands;
        awake = apart.awake;
        piece = whole_is_piece p k c t apart.thread r.0 (look p t apart.thread) refl
            (subst (λ (y : Thread). Moves (exit_of p.version) (state_of k.concrete) t r.0 (look p t y) (state_of c)) same r.2.moves)
            apart.none apart.free first;
        pauses = refl;
      };
      wakes = r.1;
      doing = own_so p k.concrete c t e done;
      told = tells_outside p (pieces_at k) t r.0 (pieces_at (record k { concrete = c })) e.name e.value
          (whole_so p k.concrete c t e done) first;
    })

-- the state behind a call that is over
over_is : (k : PieceConcrete) (t : ℕ) (x y : Thread) (c : Common) → thread_of k.concrete t ≡ Some x
    → c.most ≡ k.concrete.common.most → c.words ≡ k.concrete.common.words → c.output ≡ k.concrete.common.output
    → state_of (record { common = c; threads = slice_set k.concrete.threads (t - 1) y })
    ≡ with_thread (with_sleepers (state_of k.concrete) c.asleep) t y
over_is k t x y c stands most words output = λ i. record {
  most = most i;
  word = λ a. slice_index (words i) a;
  size = length (words i);
  made = length-set k.concrete.threads (t - 1) y i;
  thread = fun_ext (threads_put k.concrete.threads t y x stands) i;
  asleep = c.asleep;
  output = output i;
}

pub over_state : (k : PieceConcrete) (t : ℕ) (x y : Thread) (c : Common) (buckets : List ℕ) → thread_of k.concrete t ≡ Some x
    → c.most ≡ k.concrete.common.most → c.words ≡ k.concrete.common.words → c.output ≡ k.concrete.common.output
    → pieces_at (record k {
      concrete = record { common = c; threads = slice_set k.concrete.threads (t - 1) y };
      phase = put k.phase t First;
      holder = with_place k.holder buckets None;
    })
    ≡ goes_outside (pieces_at k) t (with_sleepers (state_of k.concrete) c.asleep) buckets y
over_state k t x y c buckets stands most words output = λ i. record (pieces_at k) {
  base = over_is k t x y c stands most words output i;
  phase = put k.phase t First;
  holder = with_place k.holder buckets None;
}

over_well : (p : Program) (k : PieceConcrete) (t : ℕ) (y : Thread) (c : Common) → IsFit p k
    → Holds p (length k.concrete.threads) c → c.most ≡ k.concrete.common.most
    → IsWellFormed p (record { common = c; threads = slice_set k.concrete.threads (t - 1) y })
over_well p k t y c fit holds most =
    let same = length-set k.concrete.threads (t - 1) y in
    let few = fit.well.few in
    keeps p k.concrete c (slice_set k.concrete.threads (t - 1) y) fit.well (omega (arith, same))
    (omega (arith, same, few, most)) (rw same holds)

-- a bucket is taken
lock_done : (p : Program) (k : PieceConcrete) (t : ℕ) (call : FutexCall) (go : ℕ → Thread) (b : ℕ) → IsFit p k
    → Calls p k t call go → takes_at k.buckets (k.phase t) call ≡ Some b → k.holder b ≡ None
    → Done p k t (
      record k {
        phase = put k.phase t (after_lock k.buckets (k.phase t) call);
        holder = put k.holder b (Some t);
      },
      plain name.FutexLock b,
    )
lock_done p k t call go b fit calls takes free = fits p k _ t _ fit fit.well (record {
  woken = [];
  step = record {
    thread = calls.thread;
    stands = calls.stands;
    awake = calls.awake;
    piece = IsLock call go b calls.asks calls.lies takes free refl refl;
    pauses = refl;
  };
  wakes = refl;
  doing = refl;
  told = (refl, call, called_is p t calls.thread call go (thread_of k.concrete t) calls.stands calls.asks, takes);
})

-- the word is compared
pub compares_none : (n : ℕ) (phase : FutexPhase) (call : FutexCall) → phase ≡ Compare → takes_at n phase call ≡ None
compares_none n phase call at = ap (λ f. takes_at n f call) at

expects : (call : FutexCall) (a v : ℕ) → Compares call a v → v ≡ expected_of call
expects (Wait at expected) a v is = sym is.1
expects (Wake at wakes) a v is = absurd is
expects (Requeue at b wakes moves expected) a v is = sym is.1

found_done : (p : Program) (k : PieceConcrete) (t : ℕ) (call : FutexCall) (go : ℕ → Thread) (a v : ℕ) → IsFit p k
    → Calls p k t call go → Compares call a v → k.phase t ≡ Compare → load k.concrete.common a ≡ v
    → Done p k t (record k { phase = put k.phase t Act }, plain name.FutexCompare v)
found_done p k t call go a v fit calls compares at equal = fits p k _ t _ fit fit.well (record {
  woken = [];
  step = record {
    thread = calls.thread;
    stands = calls.stands;
    awake = calls.awake;
    piece = IsEqual call go a v calls.asks compares at equal refl refl;
    pauses = refl;
  };
  wakes = refl;
  doing = refl;
  told = (
    refl,
    call,
    called_is p t calls.thread call go (thread_of k.concrete t) calls.stands calls.asks,
    at,
    put-here k.phase t Act t refl,
    expects call a v compares,
  );
})

again_done : (p : Program) (k : PieceConcrete) (t : ℕ) (call : FutexCall) (go : ℕ → Thread) (a v : ℕ)
    → IsFit p k → Calls p k t call go → Compares call a v → k.phase t ≡ Compare
    → load k.concrete.common a ≢ v
    → Done p k t (
      over_at k t call go k.concrete.common (again_of call),
      event_of (call_name call) (again_of call) [] [],
    )
again_done p k t call go a v fit calls compares at differs =
    fits p k _ t _ fit
    (over_well p k t (go (again_of call)) k.concrete.common fit (holds-concrete p k.concrete fit.well) refl)
    (record {
      woken = [];
      step = record {
        thread = calls.thread;
        stands = calls.stands;
        awake = calls.awake;
        piece = IsAgain call go a v calls.asks compares at differs refl
            (over_state k t calls.thread (go (again_of call)) k.concrete.common (buckets_of k.buckets call)
            calls.stands refl refl refl);
        pauses = refl;
      };
      wakes = refl;
      doing = call_own call (again_of call);
      told = call_tells p (pieces_at k) t [] (pieces_at (over_at k t call go k.concrete.common (again_of call))) call
          (again_of call) (put-here k.phase t First t refl);
    })

-- the call acts
pub act_done : (p : Program) (k : PieceConcrete) (t : ℕ) (call : FutexCall) (go : ℕ → Thread) → IsFit p k
    → Calls p k t call go → k.phase t ≡ Act
    → Done p k t (
      over_at k t call go (acted t call k.concrete.common) (touched k call),
      event_of (call_name call) (touched k call) (woken_by call k.concrete.common.queue)
          (moved_by call k.concrete.common.queue),
    )
act_done p k t call go fit calls at =
    let c = k.concrete.common in
    let woken = woken_by call c.queue in
    let moved = moved_by call c.queue in
    let y = go (touched k call) in
    let place = has_place p k.concrete t calls.thread fit.well calls.stands in
    fits p k _ t _ fit
    (over_well p k t y (acted t call c) fit
    (acted_holds p (length k.concrete.threads) t call c place.some place.few calls.awake
    (holds-concrete p k.concrete fit.well)) refl)
    (record {
      woken = woken;
      step = record {
        thread = calls.thread;
        stands = calls.stands;
        awake = calls.awake;
        piece = IsAct call go moved (places_by t call c.queue c.asleep) calls.asks at
            (acted_so p k.concrete t call fit.well)
            (over_state k t calls.thread y (acted t call c) (buckets_of k.buckets call) calls.stands refl refl refl);
        pauses = refl;
      };
      wakes = refl;
      doing = call_own call (touched k call);
      told = call_tells p (pieces_at k) t woken (pieces_at (over_at k t call go (acted t call c) (touched k call))) call
          (touched k call) (put-here k.phase t First t refl);
    })

-- each of them, as it is told
as_told : (p : Program) (k k1 k' : PieceConcrete) (t : ℕ) (e1 e : Event) → Done p k t (k1, e1) → e ≡ e1 → k' ≡ k1
    → Done p k t (k', e)
as_told p k k1 k' t e1 e done is to = subst (Done p k t) (λ i. (sym to i, sym is i)) done

done_so : (p : Program) (k k' : PieceConcrete) (t : ℕ) (e : Event) → IsFit p k → Taken p k t e k' → Done p k t (k', e)
done_so p k k' t e fit (WholeStep c apart done to) =
    as_told p k _ k' t e e (whole_done p k c t e fit apart done) refl to
done_so p k k' t e fit (BucketTaken call go b calls takes free is to) =
    as_told p k _ k' t _ e (lock_done p k t call go b fit calls takes free) is to
done_so p k k' t e fit (WordFound call go a v calls compares at equal is to) =
    as_told p k _ k' t _ e (found_done p k t call go a v fit calls compares at equal) is to
done_so p k k' t e fit (WordDiffers call go a v calls compares at differs is to) =
    as_told p k _ k' t _ e (again_done p k t call go a v fit calls compares at differs) is to
done_so p k k' t e fit (CallActs call go calls at is to) =
    as_told p k _ k' t _ e (act_done p k t call go fit calls at) is to

pub piece_steps_so : PieceStepsSo
piece_steps_so p k k' t e fit h = done_so p k k' t e fit (taken_so p k k' t e h)
