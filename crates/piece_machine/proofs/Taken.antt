-- A step as the machine takes it, and a piece of a call, is the one that its thread has.
use Rattle.std.proofs.Common.{◌≡◌, ◌≢◌, ℕ, suc, ◌+◌, ◌-◌, Some, None, List, [], length, Ok, slice_set, refl, sym}
use Rattle.std.proofs.Common.{ap, ◌∙◌, subst, arith}
use Rattle.std.proofs.lemmas.Bool.{cond-true, cond-false, eq-eqb, ne_eqb}
use Rattle.std.proofs.lemmas.Grind.{same_number_lists}
use Rattle.std.proofs.lemmas.List.{same_lists}
use Rattle.std.proofs.lemmas.Option.{slice_get-get_or}
use Rattle.words.specs.Updates.{put}
use Rattle.isa.specs.Programs.{Program}
use Rattle.buckets.specs.Places.{with_place, Agree}
use Rattle.buckets.specs.Sleepers.{bucket_count}
use Rattle.futexcalls.specs.declared.pieces.FutexCall.{FutexCall}
use Rattle.futexcalls.specs.declared.pieces.FutexCall.TheVariants.{Wait, Wake, Requeue}
use Rattle.futexcalls.specs.declared.pieces.FutexPhase.{FutexPhase}
use Rattle.futexcalls.specs.declared.pieces.FutexPhase.TheVariants.{First, Second, Compare, Act}
use Rattle.futexcalls.specs.Pieces.{buckets_of, takes_at, after_lock, again_of, LiesIn, Compares, Acts}
use Rattle.futexcalls.specs.PieceResults.{woken_by, moved_by, queue_by}
use Rattle.locals.specs.Threads.{Thread}
use Rattle.locals.specs.Looks.{Request, Look, Asks, look}
use Rattle.machine.specs.declared.call_step.CallStep.TheVariants.{Next, Done}
use Rattle.machine.specs.declared.event.Event.{Event}
use Rattle.machine.specs.declared.event.EventName.TheVariants as name
use Rattle.machine.specs.States.{thread_at, state_of, with_sleepers}
use Rattle.machine.specs.ConcreteServing.{load, event_of, plain}
use Rattle.machine.specs.ConcreteSteps.{step_of}
use Rattle.machine.specs.ConcretePieces.{call_name, MakesCall, DoesPiece, QueuesSo}
use Rattle.machine.specs.PieceStates.{PieceState, request_of, call_of}
use Rattle.machine.specs.PieceSteps.{Piece, IsLocal, IsPlain, IsExit, IsLock, IsEqual, IsAgain, IsAct, goes_outside}
use Rattle.machine.specs.Views.{View, concrete, IsWellFormed}
use Rattle.machine.proofs.Placing.{put-here}
use Rattle.piece_machine.specs.PieceViews.{IsApart, phase_in, parts, own_step, expected_of, told_next, IsKept}
use Rattle.piece_machine.specs.PieceConcrete.{PieceConcrete, pieces_at, lock_at, over, compare_at}
use Rattle.piece_machine.specs.PieceConcrete.{places_by, acted, piece_at, piece_of, whole_at}
use Rattle.piece_machine.specs.PieceDetermined.{IsFit}
use Rattle.piece_machine.proofs.OwnCalls.{call_back, one_call, one_thread}
use Rattle.piece_machine.proofs.Owns.{phase_put, has_phase, same_parts, kept_fit, kept_by}
use Rattle.piece_machine.proofs.Acted.{acted_so}
use Rattle.piece_machine.proofs.Chosen.{one_asleep, as_many}
use Rattle.piece_machine.specs.PieceTaken.{Calls}
use Rattle.piece_machine.proofs.Determined.{over_state, act_done, compares_none, piece_steps_so}
use Rattle.piece_machine.proofs.Refused.{lock_is}
use Rattle.piece_machine.proofs.Given.{call_is, whole_is}

-- what is kept follows from what it stands for and the lists of sleepers
same_threads : (xs ys : List Thread) → length xs ≡ length ys → ((t : ℕ) → thread_at xs t ≡ thread_at ys t) → xs ≡ ys
same_threads xs ys long same = same_lists xs ys long (λ k d l. one_thread _ _
    (sym (slice_get-get_or xs k d l) ∙ same (suc k) ∙ slice_get-get_or ys k d (omega (arith, l, long))))

one_concrete : (k k' : PieceConcrete) → pieces_at k ≡ pieces_at k' → k.concrete.common.queue ≡ k'.concrete.common.queue
    → k ≡ k'
one_concrete k k' same queue =
    let words = same_number_lists k.concrete.common.words k'.concrete.common.words
    (ap (λ (s : PieceState). s.base.size) same) (λ a l. ap (λ (s : PieceState). s.base.word a) same) in
    let threads = same_threads k.concrete.threads k'.concrete.threads (ap (λ (s : PieceState). s.base.made) same)
    (λ t. ap (λ (s : PieceState). s.base.thread t) same) in
    λ i. record {
      concrete = record {
        common = record {
          most = ap (λ (s : PieceState). s.base.most) same i;
          words = words i;
          queue = queue i;
          asleep = ap (λ (s : PieceState). s.base.asleep) same i;
          output = ap (λ (s : PieceState). s.base.output) same i;
        };
        threads = threads i;
      };
      phase = ap (λ (s : PieceState). s.phase) same i;
      holder = ap (λ (s : PieceState). s.holder) same i;
      buckets = ap (λ (s : PieceState). s.buckets) same i;
    }

-- the call that a thread makes is one
one_asked : (r q : Request) (f g : ℕ → Thread) → (let a : Look = Asks r f in a) ≡ (let b : Look = Asks q g in b)
    → (r ≡ q) × (f ≡ g)
one_asked r q f g h = (cc, cc)

same_call : (l : Look) (a b : FutexCall) (f g : ℕ → Thread) → l ≡ Asks (request_of a) f → l ≡ Asks (request_of b) g
    → (a ≡ b) × (f ≡ g)
same_call l a b f g at there =
    let r = one_asked (request_of a) (request_of b) f g (sym at ∙ there) in
    (one_call a b (sym (call_back a) ∙ ap call_of r.0 ∙ call_back b), r.1)

other_ask : (r : Request) (call : FutexCall) (f g : ℕ → Thread) (l : Look) → l ≡ Asks r f → l ≡ Asks (request_of call) g
    → call_of r ≡ None → ⊥
other_ask r call f g l at there none =
    let same = one_asked r (request_of call) f g (sym at ∙ there) in
    let e : None ≡ Some call = sym none ∙ ap call_of same.0 ∙ call_back call in cc

-- the word is as expected, or differs
equal_is : (k : PieceConcrete) (t : ℕ) (call : FutexCall) (go : ℕ → Thread) (a v : ℕ) → Compares call a v
    → load k.concrete.common a ≡ v
    → compare_at k t call go ≡ Ok (record k { phase = put k.phase t Act }, plain name.FutexCompare (expected_of call))
equal_is k t (Wait at expected) go a v is equal =
    cond-true _ _ _ (eq-eqb _ _ (ap (load k.concrete.common) is.0 ∙ equal ∙ sym is.1))
equal_is k t (Wake at wakes) go a v is equal = absurd is
equal_is k t (Requeue at b wakes moves expected) go a v is equal =
    cond-true _ _ _ (eq-eqb _ _ (ap (load k.concrete.common) is.0 ∙ equal ∙ sym is.1))

again_is : (k : PieceConcrete) (t : ℕ) (call : FutexCall) (go : ℕ → Thread) (a v : ℕ) → Compares call a v
    → load k.concrete.common a ≢ v
    → compare_at k t call go ≡ over k t call go k.concrete.common (again_of call) [] []
again_is k t (Wait at expected) go a v is differs = cond-false _ _ _ (ne_eqb _ _ (λ e. differs
    (sym (ap (load k.concrete.common) is.0) ∙ e ∙ is.1)))
again_is k t (Wake at wakes) go a v is differs = absurd is
again_is k t (Requeue at b wakes moves expected) go a v is differs = cond-false _ _ _ (ne_eqb _ _ (λ e. differs
    (sym (ap (load k.concrete.common) is.0) ∙ e ∙ is.1)))

-- a piece behind which the call goes on
next_gives : (p : Program) (k k' : PieceConcrete) (t : ℕ) (call : FutexCall) (go : ℕ → Thread)
    → (calls : Calls p k t call go) → (k'.phase t ≡ First → ⊥)
    → k.concrete.common.queue ≡ k'.concrete.common.queue → Piece p (pieces_at k) t calls.thread [] (pieces_at k')
    → piece_of p k t ≡ Ok (k', told_next (takes_at k.buckets (k.phase t) call) call)
next_gives p k k' t call go calls later queue (IsLocal y looks first none to) =
    absurd (let e = sym looks ∙ calls.asks in cc)
next_gives p k k' t call go calls later queue (IsPlain request f answer mid asks none first serves to) =
    absurd (other_ask request call f go (look p t calls.thread) asks calls.asks none)
next_gives p k k' t call go calls later queue (IsExit phase after next looks first exits free to) =
    absurd (let e = sym looks ∙ calls.asks in cc)
next_gives p k k' t call go calls later queue (IsLock other f b asks lies takes free none to) =
    let same : other ≡ call = (same_call _ other call f go asks calls.asks).0 in
    let taken : takes_at k.buckets (k.phase t) call ≡ Some b = ap (takes_at k.buckets (k.phase t)) (sym same) ∙ takes in
    let k1 : PieceConcrete = record k {
      phase = put k.phase t (after_lock k.buckets (k.phase t) call);
      holder = put k.holder b (Some t);
    } in
    let is : pieces_at k1 ≡ pieces_at k' = (λ i. record (pieces_at k) {
      phase = put k.phase t (after_lock k.buckets (k.phase t) (sym same i));
      holder = put k.holder b (Some t);
    }) ∙ sym to in
    call_is p k t call go calls ∙ lock_is k t call go (k.phase t) b taken
    ∙ ap (lock_at k t (after_lock k.buckets (k.phase t) call) b) free
    ∙ (λ i. Ok (one_concrete k1 k' is queue i, told_next (sym taken i) call))
next_gives p k k' t call go calls later queue (IsEqual other f a v asks compares at equal none to) =
    let same : other ≡ call = (same_call _ other call f go asks calls.asks).0 in
    let k1 : PieceConcrete = record k { phase = put k.phase t Act } in
    call_is p k t call go calls ∙ ap (piece_at k t call go) at
    ∙ equal_is k t call go a v (subst (λ (c : FutexCall). Compares c a v) same compares) equal
    ∙ (λ i. Ok (
      one_concrete k1 k' (sym to) queue i,
      told_next (sym (compares_none k.buckets (k.phase t) call at) i) call,
    ))
next_gives p k k' t call go calls later queue (IsAgain other f a v asks compares at differs none to) =
    absurd (later (ap (λ (s : PieceState). s.phase t) to ∙ put-here k.phase t First t refl))
next_gives p k k' t call go calls later queue (IsAct other f moved after asks at acts to) =
    absurd (later (ap (λ (s : PieceState). s.phase t) to ∙ put-here k.phase t First t refl))

-- the comparison by which it is over
again_gives : (p : Program) (k k' : PieceConcrete) (t : ℕ) (call : FutexCall) (go : ℕ → Thread) (woken : List ℕ)
    (event : Event) → (calls : Calls p k t call go) → k.phase t ≡ Compare → k'.phase t ≡ First
    → k.concrete.common.queue ≡ k'.concrete.common.queue → event ≡ event_of (call_name call) (again_of call) [] []
    → Piece p (pieces_at k) t calls.thread woken (pieces_at k') → piece_of p k t ≡ Ok (k', event)
again_gives p k k' t call go woken event calls at out queue is (IsLocal y looks first none to) =
    absurd (let e = sym looks ∙ calls.asks in cc)
again_gives p k k' t call go woken event calls at out queue is (IsPlain request f answer mid asks none first serves to) =
    absurd (other_ask request call f go (look p t calls.thread) asks calls.asks none)
again_gives p k k' t call go woken event calls at out queue is (IsExit phase after next looks first exits free to) =
    absurd (let e = sym looks ∙ calls.asks in cc)
again_gives p k k' t call go woken event calls at out queue is (IsLock other f b asks lies takes free none to) =
    absurd (let e : None ≡ Some b = sym (compares_none k.buckets (k.phase t) other at) ∙ takes in cc)
again_gives p k k' t call go woken event calls at out queue is (IsEqual other f a v asks compares there equal none to) =
    absurd (let e : First ≡ Act = sym out ∙ ap (λ (s : PieceState). s.phase t) to ∙ put-here k.phase t Act t refl in cc)
again_gives p k k' t call go woken event calls at out queue is (IsAgain other f a v asks compares there differs none to) =
    let same = same_call _ other call f go asks calls.asks in
    let k1 : PieceConcrete = record k {
      concrete = record {
        common = k.concrete.common;
        threads = slice_set k.concrete.threads (t - 1) (go (again_of call));
      };
      phase = put k.phase t First;
      holder = with_place k.holder (buckets_of k.buckets call) None;
    } in
    let ends : pieces_at k1 ≡ pieces_at k' =
    over_state k t calls.thread (go (again_of call)) k.concrete.common (buckets_of k.buckets call) calls.stands
    refl refl refl
    ∙ (λ i. goes_outside (pieces_at k) t (state_of k.concrete) (buckets_of k.buckets (sym same.0 i))
    (sym same.1 i (again_of (sym same.0 i)))) ∙ sym to in
    call_is p k t call go calls ∙ ap (piece_at k t call go) at
    ∙ again_is k t call go a v (subst (λ (c : FutexCall). Compares c a v) same.0 compares) differs
    ∙ (λ i. Ok (one_concrete k1 k' ends queue i, sym is i))
again_gives p k k' t call go woken event calls at out queue is (IsAct other f moved after asks there acts to) =
    absurd (let e : Compare ≡ Act = sym at ∙ there in cc)

-- the act
act_gives : (p : Program) (k k' : PieceConcrete) (t : ℕ) (call : FutexCall) (go : ℕ → Thread) (woken : List ℕ)
    (event : Event) → IsFit p k → IsWellFormed p k'.concrete → (calls : Calls p k t call go) → k.phase t ≡ Act
    → queue_by t call k.concrete.common.queue ≡ k'.concrete.common.queue
    → event ≡ event_of (call_name call)
    (length (woken_by call k.concrete.common.queue) + length (moved_by call k.concrete.common.queue))
    (woken_by call k.concrete.common.queue) (moved_by call k.concrete.common.queue)
    → Piece p (pieces_at k) t calls.thread woken (pieces_at k') → piece_of p k t ≡ Ok (k', event)
act_gives p k k' t call go woken event fit well calls at queue is (IsLocal y looks first none to) =
    absurd (let e = sym looks ∙ calls.asks in cc)
act_gives p k k' t call go woken event fit well calls at queue is (IsPlain request f answer mid asks none first serves to) =
    absurd (other_ask request call f go (look p t calls.thread) asks calls.asks none)
act_gives p k k' t call go woken event fit well calls at queue is (IsExit phase after next looks first exits free to) =
    absurd (let e = sym looks ∙ calls.asks in cc)
act_gives p k k' t call go woken event fit well calls at queue is (IsLock other f b asks lies takes free none to) =
    absurd (let e : None ≡ Some b = sym (ap (λ phase. takes_at k.buckets phase other) at) ∙ takes in cc)
act_gives p k k' t call go woken event fit well calls at queue is (IsEqual other f a v asks compares there equal none to) =
    absurd (let e : Act ≡ Compare = sym at ∙ there in cc)
act_gives p k k' t call go woken event fit well calls at queue is
    (IsAgain other f a v asks compares there differs none to) = absurd (let e : Act ≡ Compare = sym at ∙ there in cc)
act_gives p k k' t call go woken event fit well calls at queue is (IsAct other f moved after asks there acts to) =
    let c = k.concrete.common in
    let same = same_call _ other call f go asks calls.asks in
    let first = woken_by call c.queue in
    let rest = moved_by call c.queue in
    let y = go (length first + length rest) in
    let k1 : PieceConcrete = record k {
      concrete = record { common = acted t call c; threads = slice_set k.concrete.threads (t - 1) y };
      phase = put k.phase t First;
      holder = with_place k.holder (buckets_of k.buckets call) None;
    } in
    let fit1 : IsFit p k1 = (act_done p k t call go fit calls at).1 in
    let left : k'.concrete.common.asleep ≡ after = ap (λ (s : PieceState). s.base.asleep) to in
    let places : places_by t call c.queue c.asleep ≡ after =
    one_asleep k'.concrete.common.queue (places_by t call c.queue c.asleep) k'.concrete.common.asleep
    (subst (λ (q : ℕ → List ℕ). Agree q (places_by t call c.queue c.asleep)) queue fit1.well.agree) well.agree ∙ left in
    let counts : length first + length rest ≡ length woken + length moved =
    as_many t call c.asleep after first rest woken moved
    (subst (Acts t call c.asleep first rest) places (acted_so p k.concrete t call fit.well))
    (subst (λ (d : FutexCall). Acts t d c.asleep woken moved after) same.0 acts) in
    let ends : pieces_at k1 ≡ pieces_at k' =
    over_state k t calls.thread y (acted t call c) (buckets_of k.buckets call) calls.stands refl refl refl
    ∙ (λ i. goes_outside (pieces_at k) t (with_sleepers (state_of k.concrete) (places i))
    (buckets_of k.buckets (sym same.0 i)) (sym same.1 i (counts i))) ∙ sym to in
    call_is p k t call go calls ∙ ap (piece_at k t call go) at
    ∙ (λ i. Ok (one_concrete k1 k' ends queue i, sym is i))

-- the same of a machine and its phases
abbrev makes_so : (v : View) (phases : List FutexPhase) (t : ℕ) (call : FutexCall) → (m : MakesCall v t call)
    → LiesIn (length v.words) call → (state_of (concrete v)).asleep t ≡ None
    → Calls v.program (parts (record { view = v; phases = phases })) t call m.go
makes_so v phases t call m lies awake =
    record { thread = m.thread; stands = m.stands; awake = awake; asks = m.asks; lies = lies }

-- what is kept, where thread t has this phase
abbrev at_phase : View → List FutexPhase → ℕ → FutexPhase → PieceConcrete
at_phase v phases t phase = record (parts (record { view = v; phases = phases })) { phase = put (phase_in phases) t phase }

parts_put : (v v' : View) (phases : List FutexPhase) (t : ℕ) (call : FutexCall) (phase : FutexPhase) → IsKept v phases
    → MakesCall v t call → at_phase v' phases t phase ≡ parts (record { view = v'; phases = slice_set phases t phase })
parts_put v v' phases t call phase kept m = λ i. record (parts (record { view = v'; phases = phases })) {
  phase = sym (phase_put phases t phase (has_phase v phases t m.thread kept m.stands)) i;
}

pub taken_next : (v v' : View) (phases : List FutexPhase) (t : ℕ) (call : FutexCall) (phase next : FutexPhase)
    (event : Event) → IsKept v phases → (m : MakesCall v t call) → LiesIn (length v.words) call
    → (state_of (concrete v)).asleep t ≡ None → phase_in phases t ≡ phase
    → QueuesSo v.sleepers t call phase (Next next) event v'.sleepers
    → DoesPiece v (phase_in phases) t call m.thread (Next next) event v'
    → piece_of v.program (parts (record { view = v; phases = phases })) t
    ≡ Ok (
      parts (record { view = v'; phases = slice_set phases t next }),
      told_next (takes_at (bucket_count v.sleepers) phase call) call,
    )
taken_next v v' phases t call phase next event kept m lies awake at order piece =
    next_gives v.program (parts (record { view = v; phases = phases })) (at_phase v' phases t next) t call m.go
    (makes_so v phases t call m lies awake) (λ first. order.0 (sym (put-here (phase_in phases) t next t refl) ∙ first))
    (sym order.1) piece
    ∙ (λ i. Ok (
      parts_put v v' phases t call next kept m i,
      told_next (takes_at (bucket_count v.sleepers) (at i) call) call,
    ))

taken_at : (v v' : View) (phases : List FutexPhase) (t : ℕ) (call : FutexCall) (phase : FutexPhase) (event : Event)
    → IsKept v phases → (m : MakesCall v t call) → LiesIn (length v.words) call
    → (state_of (concrete v)).asleep t ≡ None → phase_in phases t ≡ phase → IsWellFormed v.program (concrete v')
    → QueuesSo v.sleepers t call phase Done event v'.sleepers
    → DoesPiece v (phase_in phases) t call m.thread Done event v'
    → piece_of v.program (parts (record { view = v; phases = phases })) t
    ≡ Ok (at_phase v' phases t First, event)
taken_at v v' phases t call First event kept m lies awake at well order piece = absurd order
taken_at v v' phases t call Second event kept m lies awake at well order piece = absurd order
taken_at v v' phases t call Compare event kept m lies awake at well order piece =
    again_gives v.program (parts (record { view = v; phases = phases })) (at_phase v' phases t First) t call m.go
    piece.0 event (makes_so v phases t call m lies awake) at (put-here (phase_in phases) t First t refl) (sym order.0)
    order.1 piece.4
taken_at v v' phases t call Act event kept m lies awake at well order piece =
    act_gives v.program (parts (record { view = v; phases = phases })) (at_phase v' phases t First) t call m.go
    piece.0 event (kept_fit v phases kept) well (makes_so v phases t call m lies awake) at (sym order.0) order.1 piece.4

pub taken_done : (v v' : View) (phases : List FutexPhase) (t : ℕ) (call : FutexCall) (phase : FutexPhase) (event : Event)
    → IsKept v phases → (m : MakesCall v t call) → LiesIn (length v.words) call
    → (state_of (concrete v)).asleep t ≡ None → phase_in phases t ≡ phase → IsWellFormed v.program (concrete v')
    → QueuesSo v.sleepers t call phase Done event v'.sleepers
    → DoesPiece v (phase_in phases) t call m.thread Done event v'
    → piece_of v.program (parts (record { view = v; phases = phases })) t
    ≡ Ok (parts (record { view = v'; phases = slice_set phases t First }), event)
taken_done v v' phases t call phase event kept m lies awake at well order piece =
    taken_at v v' phases t call phase event kept m lies awake at well order piece
    ∙ (λ i. Ok (parts_put v v' phases t call First kept m i, event))

-- a step that is none of a call
pub whole_gives : (v v' : View) (phases : List FutexPhase) (t : ℕ) (event : Event)
    → IsApart v.program (pieces_at (parts (record { view = v; phases = phases }))) t
    → v'.sleepers.holders ≡ v.sleepers.holders → step_of v.program (concrete v) t ≡ Ok (concrete v', event)
    → piece_of v.program (parts (record { view = v; phases = phases })) t
    ≡ Ok (parts (record { view = v'; phases = phases }), event)
whole_gives v v' phases t event apart holders done =
    let k = parts (record { view = v; phases = phases }) in
    whole_is v.program k t apart ∙ ap (whole_at k) done
    ∙ (λ i. Ok (sym (same_parts v v' phases holders) i, event))

-- a step keeps what always holds
pub kept_step : (v v' : View) (phases phases' : List FutexPhase) (t : ℕ) (e : Event) → IsKept v phases
    → v'.program ≡ v.program → length phases' ≡ length phases
    → piece_of v.program (parts (record { view = v; phases = phases })) t
    ≡ Ok (parts (record { view = v'; phases = phases' }), e) → IsKept v' phases'
kept_step v v' phases phases' t e kept same long gives =
    let k' = parts (record { view = v'; phases = phases' }) in
    let r = piece_steps_so v.program (parts (record { view = v; phases = phases })) k' t e (kept_fit v phases kept) gives in
    kept_by v v' phases phases' (own_step (pieces_at k') t r.0.woken) kept same (rw same r.1.well) long r.0.step
