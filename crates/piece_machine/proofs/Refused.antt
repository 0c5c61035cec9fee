-- A step is refused exactly where the relation has none.
use Rattle.std.proofs.Common.{◌≡◌, ◌⊎◌, ℕ, ◌==◌, Bool, true, false, length, Option, Some, None, Result, Ok, Err}
use Rattle.std.proofs.Common.{inl, inr, refl, sym, ap, ◌∙◌, subst}
use Rattle.std.specs.Prelude.{if◌then◌else◌}
use Rattle.std.proofs.lemmas.Bool.{both_ways, cases_Bool, cond-true, cond-false}
use Rattle.isa.specs.Programs.{Program}
use Rattle.futexcalls.specs.declared.pieces.FutexCall.{FutexCall}
use Rattle.futexcalls.specs.declared.pieces.FutexCall.TheVariants.{Wait, Wake, Requeue}
use Rattle.futexcalls.specs.declared.pieces.FutexPhase.{FutexPhase}
use Rattle.futexcalls.specs.declared.pieces.FutexPhase.TheVariants.{First, Second, Compare, Act}
use Rattle.futexcalls.specs.Pieces.{takes_at, after_lock, IsPhase, LiesIn}
use Rattle.robustexit.specs.declared.phase.ExitPhase.TheVariants.{Entry, Pending, ClearId, LastWake, Ended}
use Rattle.robustexit.specs.ExitRules.{exit_of}
use Rattle.locals.specs.Threads.{Thread, Runs, Dies, Exits}
use Rattle.locals.specs.Looks.{Request, Look, Goes, Asks, Leaves, Breaks, Rests, look}
use Rattle.machine.specs.declared.event.Event.{Event}
use Rattle.machine.specs.declared.event.StepFault.{StepFault}
use Rattle.machine.specs.declared.event.StepFault.TheVariants.{CannotMove, Broken}
use Rattle.machine.specs.States.{ConcreteState, thread_of, state_of}
use Rattle.machine.specs.Runs.{IsBroken, NextIsBroken, has_ended}
use Rattle.machine.specs.ConcreteServing.{load}
use Rattle.machine.specs.ConcreteSteps.{step_of}
use Rattle.machine.specs.PieceStates.{request_of, call_of, call_at}
use Rattle.machine.specs.PieceSteps.{BlocksAt, BlocksCall, CanTakePiece, NextPieceIsBroken}
use Rattle.machine.proofs.Refusing.{breaks_so, refuses_so}
use Rattle.piece_machine.specs.PieceConcrete.{PieceConcrete, Outcome, pieces_at, lies_in, wanted, is_held, whole_at}
use Rattle.piece_machine.specs.PieceConcrete.{lock_at, take_at, compare_at, piece_at, call_step, look_step}
use Rattle.piece_machine.specs.PieceConcrete.{awake_step, thread_step}
use Rattle.piece_machine.specs.PieceDetermined.{IsFit, PieceBreaksSo, PieceRefusesSo}
use Rattle.piece_machine.proofs.OwnCalls.{one_thread, stands_in, told_call, breaks}
use Rattle.piece_machine.proofs.Owns.{apart_first}
use Rattle.piece_machine.proofs.Wanted.{lies_so, lies_test, lies_not, blocks_so, blocks_test}
use Rattle.piece_machine.proofs.Cases.{Stands}

apart_faults : (let a : Outcome = Err CannotMove in a) ≡ (let b : Outcome = Err Broken in b) → ⊥
apart_faults h = cc

-- a step of the whole machine that is refused
pub whole_err : (k : PieceConcrete) (r : Result (ConcreteState × Event) StepFault) (f : StepFault) → whole_at k r ≡ Err f → r ≡ Err f
whole_err k (Ok q) f h = absurd cc
whole_err k (Err g) f h = let e : g ≡ f = cc in ap (λ x. Err x) e

-- no piece is broken
lock_not : (k : PieceConcrete) (t : ℕ) (next : FutexPhase) (b : ℕ) (o : Option ℕ) → lock_at k t next b o ≡ Err Broken → ⊥
lock_not k t next b None h = cc
lock_not k t next b (Some u) h = cc

take_not : (k : PieceConcrete) (t : ℕ) (next : FutexPhase) (o : Option ℕ) → take_at k t next o ≡ Err Broken → ⊥
take_not k t next None h = cc
take_not k t next (Some b) h = lock_not k t next b (k.holder b) h

never_err : (b : Bool) (x y : PieceConcrete × Event) (f : StepFault)
    → (let r : Outcome = if b then Ok x else Ok y in r) ≡ Err f → ⊥
never_err true x y f h = cc
never_err false x y f h = cc

compare_not : (k : PieceConcrete) (t : ℕ) (call : FutexCall) (go : ℕ → Thread) → compare_at k t call go ≡ Err Broken → ⊥
compare_not k t (Wait a expected) go h = never_err (load k.concrete.common a.0 == expected) _ _ Broken h
compare_not k t (Wake a wakes) go h = cc
compare_not k t (Requeue a b wakes moves expected) go h =
    never_err (load k.concrete.common a.0 == expected) _ _ Broken h

pub piece_not : (k : PieceConcrete) (t : ℕ) (call : FutexCall) (go : ℕ → Thread) (phase : FutexPhase)
    → piece_at k t call go phase ≡ Err Broken → ⊥
piece_not k t call go First h = take_not k t (after_lock k.buckets First call) (takes_at k.buckets First call) h
piece_not k t call go Second h = take_not k t (after_lock k.buckets Second call) (takes_at k.buckets Second call) h
piece_not k t call go Compare h = compare_not k t call go h
piece_not k t call go Act h = absurd cc

-- where a step is Broken
first_of : (p : Program) (k : PieceConcrete) (t : ℕ) (x : Thread) (l : Look) → IsFit p k → Stands p k t x → look p t x ≡ l
    → call_at l ≡ None → NextIsBroken p (state_of k.concrete) t → NextPieceIsBroken p (pieces_at k) t
first_of p k t x l fit stands looks none b =
    (apart_first p (pieces_at k) t x fit.right stands.0 (ap call_at looks ∙ none), b)

call_breaks : (p : Program) (k : PieceConcrete) (t : ℕ) (x : Thread) (request : Request) (go : ℕ → Thread)
    (o : Option FutexCall) → IsFit p k → Stands p k t x → look p t x ≡ Asks request go → call_of request ≡ o
    → call_step p k t go o ≡ Err Broken → NextPieceIsBroken p (pieces_at k) t
call_breaks p k t x request go None fit stands looks is h =
    first_of p k t x (Asks request go) fit stands looks is
    ((breaks_so p k.concrete t fit.well).0 (whole_err k (step_of p k.concrete t) Broken h))
call_breaks p k t x request go (Some call) fit stands looks is h =
    elim (cases_Bool (lies_in (length k.concrete.common.words) call)) [
      | inl y ↦ absurd (piece_not k t call go (k.phase t) (sym (cond-true _ _ (Err Broken) y) ∙ h))
      | inr n ↦ breaks p (pieces_at k) t x call go fit.right stands.0 stands.1
          (looks ∙ ap (λ r. Asks r go) (told_call request call is))
          (lies_not (length k.concrete.common.words) call n)
    ]

look_breaks : (p : Program) (k : PieceConcrete) (t : ℕ) (x : Thread) (l : Look) → IsFit p k → Stands p k t x
    → look p t x ≡ l → look_step p k t l ≡ Err Broken → NextPieceIsBroken p (pieces_at k) t
look_breaks p k t x (Asks request go) fit stands looks h =
    call_breaks p k t x request go (call_of request) fit stands looks refl h
look_breaks p k t x (Leaves phase) fit stands looks h =
    elim (cases_Bool (is_held k (wanted (exit_of p.version) k t (Leaves phase)))) [
      | inl y ↦ absurd (apart_faults (sym (cond-true _ (Err CannotMove) (whole_at k (step_of p k.concrete t)) y) ∙ h))
      | inr n ↦ first_of p k t x (Leaves phase) fit stands looks refl
          ((breaks_so p k.concrete t fit.well).0 (whole_err k (step_of p k.concrete t) Broken
          (sym (cond-false _ _ _ n) ∙ h)))
    ]
look_breaks p k t x (Goes y) fit stands looks h = first_of p k t x (Goes y) fit stands looks refl
    ((breaks_so p k.concrete t fit.well).0 (whole_err k (step_of p k.concrete t) Broken h))
look_breaks p k t x Breaks fit stands looks h = first_of p k t x Breaks fit stands looks refl
    ((breaks_so p k.concrete t fit.well).0 (whole_err k (step_of p k.concrete t) Broken h))
look_breaks p k t x Rests fit stands looks h = first_of p k t x Rests fit stands looks refl
    ((breaks_so p k.concrete t fit.well).0 (whole_err k (step_of p k.concrete t) Broken h))

awake_breaks : (p : Program) (k : PieceConcrete) (t : ℕ) (x : Thread) (a : Option ℕ) → IsFit p k
    → thread_of k.concrete t ≡ Some x → k.concrete.common.asleep t ≡ a → awake_step p k t x a ≡ Err Broken
    → NextPieceIsBroken p (pieces_at k) t
awake_breaks p k t x None fit stands awake h = look_breaks p k t x (look p t x) fit (stands, awake) refl h
awake_breaks p k t x (Some a) fit stands awake h = absurd cc

thread_breaks : (p : Program) (k : PieceConcrete) (t : ℕ) (o : Option Thread) → IsFit p k → thread_of k.concrete t ≡ o
    → thread_step p k t o ≡ Err Broken → NextPieceIsBroken p (pieces_at k) t
thread_breaks p k t None fit stands h = absurd cc
thread_breaks p k t (Some x) fit stands h = awake_breaks p k t x (k.concrete.common.asleep t) fit stands refl h

-- and back
out_of_memory : (k : PieceConcrete) (call : FutexCall) (go : ℕ → Thread)
    → IsBroken (state_of k.concrete) (Asks (request_of call) go) → LiesIn (length k.concrete.common.words) call → ⊥
out_of_memory k (Wait a expected) go h = h
out_of_memory k (Wake a wakes) go h = h
out_of_memory k (Requeue a b wakes moves expected) go h = h

breaks_call : (p : Program) (k : PieceConcrete) (t : ℕ) (request : Request) (go : ℕ → Thread) (o : Option FutexCall)
    → call_of request ≡ o → step_of p k.concrete t ≡ Err Broken
    → IsBroken (state_of k.concrete) (Asks request go) → call_step p k t go o ≡ Err Broken
breaks_call p k t request go None is h b = ap (whole_at k) h
breaks_call p k t request go (Some call) is h b =
    elim (cases_Bool (lies_in (length k.concrete.common.words) call)) [
      | inl y ↦ absurd (out_of_memory k call go
          (subst (λ (r : Request). IsBroken (state_of k.concrete) (Asks r go)) (told_call request call is) b)
          (lies_so (length k.concrete.common.words) call y))
      | inr n ↦ cond-false _ _ _ n
    ]

breaks_look : (p : Program) (k : PieceConcrete) (t : ℕ) (l : Look) → step_of p k.concrete t ≡ Err Broken
    → IsBroken (state_of k.concrete) l → look_step p k t l ≡ Err Broken
breaks_look p k t (Asks request go) h b = breaks_call p k t request go (call_of request) refl h b
breaks_look p k t (Leaves phase) h b = absurd b
breaks_look p k t (Goes y) h b = ap (whole_at k) h
breaks_look p k t Breaks h b = ap (whole_at k) h
breaks_look p k t Rests h b = ap (whole_at k) h

pub piece_breaks_so : PieceBreaksSo
piece_breaks_so p k t fit = (
  thread_breaks p k t (thread_of k.concrete t) fit refl,
  λ b. ap (thread_step p k t) b.1.stands ∙ ap (awake_step p k t b.1.thread) b.1.awake
      ∙ breaks_look p k t (look p t b.1.thread) ((breaks_so p k.concrete t fit.well).1 b.1) b.1.breaks,
)

-- a piece is refused only where a held bucket is in the way
lock_held : (k : PieceConcrete) (t : ℕ) (next : FutexPhase) (b : ℕ) (o : Option ℕ) → lock_at k t next b o ≡ Err CannotMove
    → (u : ℕ) × (o ≡ Some u)
lock_held k t next b None h = absurd cc
lock_held k t next b (Some u) h = (u, refl)

first_takes : (n : ℕ) (call : FutexCall) → (b : ℕ) × (takes_at n First call ≡ Some b)
first_takes n (Wait a expected) = (_, refl)
first_takes n (Wake a wakes) = (_, refl)
first_takes n (Requeue a b wakes moves expected) = (_, refl)

second_takes : (n : ℕ) (call : FutexCall) → IsPhase n Second call → (b : ℕ) × (takes_at n Second call ≡ Some b)
second_takes n (Wait a expected) h = absurd h
second_takes n (Wake a wakes) h = absurd h
second_takes n (Requeue a b wakes moves expected) h = (_, refl)

compare_held : (k : PieceConcrete) (t : ℕ) (call : FutexCall) (go : ℕ → Thread) → IsPhase k.buckets Compare call
    → compare_at k t call go ≡ Err CannotMove → ⊥
compare_held k t (Wait a expected) go there h = never_err (load k.concrete.common a.0 == expected) _ _ CannotMove h
compare_held k t (Wake a wakes) go there h = there
compare_held k t (Requeue a b wakes moves expected) go there h =
    never_err (load k.concrete.common a.0 == expected) _ _ CannotMove h

abbrev IsThere : PieceConcrete → FutexPhase → FutexCall → Type 0
IsThere k phase call = (phase ≡ First) ⊎ IsPhase k.buckets phase call

second_there : (k : PieceConcrete) (call : FutexCall) → IsThere k Second call → IsPhase k.buckets Second call
second_there k call there = elim there [ inl e ↦ absurd cc | inr w ↦ w ]

compare_there : (k : PieceConcrete) (call : FutexCall) → IsThere k Compare call → IsPhase k.buckets Compare call
compare_there k call there = elim there [ inl e ↦ absurd cc | inr w ↦ w ]

pub piece_held : (k : PieceConcrete) (t : ℕ) (call : FutexCall) (go : ℕ → Thread) (phase : FutexPhase)
    → IsThere k phase call → piece_at k t call go phase ≡ Err CannotMove
    → (b : ℕ) × (u : ℕ) × (takes_at k.buckets phase call ≡ Some b) × (k.holder b ≡ Some u)
piece_held k t call go First there h =
    let b = first_takes k.buckets call in
    let r = lock_held k t (after_lock k.buckets First call) b.0 (k.holder b.0)
    (ap (take_at k t (after_lock k.buckets First call)) (sym b.1) ∙ h) in
    (b.0, r.0, b.1, r.1)
piece_held k t call go Second there h =
    let b = second_takes k.buckets call (second_there k call there) in
    let r = lock_held k t (after_lock k.buckets Second call) b.0 (k.holder b.0)
    (ap (take_at k t (after_lock k.buckets Second call)) (sym b.1) ∙ h) in
    (b.0, r.0, b.1, r.1)
piece_held k t call go Compare there h = absurd (compare_held k t call go (compare_there k call there) h)
piece_held k t call go Act there h = absurd cc

-- the phase of a thread that makes a call
pub there_of : (p : Program) (k : PieceConcrete) (t : ℕ) (x : Thread) (call : FutexCall) (go : ℕ → Thread) → IsFit p k
    → thread_of k.concrete t ≡ Some x → look p t x ≡ Asks (request_of call) go → IsThere k (k.phase t) call
there_of p k t x call go fit stands asks =
    elim (stands_in p (pieces_at k) t x call go fit.right stands asks) [ inl f ↦ inl f | inr w ↦ inr w.0 ]

-- where a step is refused
whole_refuses : (p : Program) (k : PieceConcrete) (t : ℕ) → whole_at k (step_of p k.concrete t) ≡ Err CannotMove
    → CanTakePiece p (pieces_at k) t → ⊥
whole_refuses p k t h can =
    (refuses_so p k.concrete t).0 (whole_err k (step_of p k.concrete t) CannotMove h)
    (record { thread = can.thread; stands = can.stands; awake = can.awake; goes_on = can.goes_on })

call_refuses : (p : Program) (k : PieceConcrete) (t : ℕ) (request : Request) (go : ℕ → Thread) (o : Option FutexCall)
    → IsFit p k → (can : CanTakePiece p (pieces_at k) t) → look p t can.thread ≡ Asks request go → call_of request ≡ o
    → call_step p k t go o ≡ Err CannotMove → ⊥
call_refuses p k t request go None fit can looks is h = whole_refuses p k t h can
call_refuses p k t request go (Some call) fit can looks is h =
    elim (cases_Bool (lies_in (length k.concrete.common.words) call)) [
      | inl y ↦
          let asks : look p t can.thread ≡ Asks (request_of call) go = looks
          ∙ ap (λ r. Asks r go) (told_call request call is) in
          let held = piece_held k t call go (k.phase t) (there_of p k t can.thread call go fit can.stands asks)
          (sym (cond-true _ _ (Err Broken) y) ∙ h) in
          can.free (subst (BlocksAt (exit_of p.version) (pieces_at k) t) (sym looks) (subst (BlocksCall (pieces_at k) t) (sym is)
          (lies_so (length k.concrete.common.words) call y, held.0, held.1, held.2, held.3)))
      | inr n ↦ apart_faults (sym h ∙ cond-false _ (piece_at k t call go (k.phase t)) _ n)
    ]

look_refuses : (p : Program) (k : PieceConcrete) (t : ℕ) (l : Look) → IsFit p k → (can : CanTakePiece p (pieces_at k) t)
    → look p t can.thread ≡ l → look_step p k t l ≡ Err CannotMove → ⊥
look_refuses p k t (Asks request go) fit can looks h = call_refuses p k t request go (call_of request) fit can looks refl h
look_refuses p k t (Leaves phase) fit can looks h =
    elim (cases_Bool (is_held k (wanted (exit_of p.version) k t (Leaves phase)))) [
      | inl y ↦ can.free (subst (BlocksAt (exit_of p.version) (pieces_at k) t) (sym looks) (blocks_so (exit_of p.version) k t (Leaves phase) y))
      | inr n ↦ whole_refuses p k t (sym (cond-false _ _ _ n) ∙ h) can
    ]
look_refuses p k t (Goes y) fit can looks h = whole_refuses p k t h can
look_refuses p k t Breaks fit can looks h = whole_refuses p k t h can
look_refuses p k t Rests fit can looks h = whole_refuses p k t h can

-- a bucket is taken
pub lock_is : (k : PieceConcrete) (t : ℕ) (call : FutexCall) (go : ℕ → Thread) (phase : FutexPhase) (b : ℕ)
    → takes_at k.buckets phase call ≡ Some b
    → piece_at k t call go phase ≡ lock_at k t (after_lock k.buckets phase call) b (k.holder b)
lock_is k t call go First b takes = ap (take_at k t (after_lock k.buckets First call)) takes
lock_is k t call go Second b takes = ap (take_at k t (after_lock k.buckets Second call)) takes
lock_is k t call go Compare b takes = absurd cc
lock_is k t call go Act b takes = absurd cc

-- and back: where a held bucket is in the way
refused_call : (p : Program) (k : PieceConcrete) (t : ℕ) (go : ℕ → Thread) (o : Option FutexCall)
    → BlocksCall (pieces_at k) t o → call_step p k t go o ≡ Err CannotMove
refused_call p k t go None b = absurd b
refused_call p k t go (Some call) b =
    cond-true _ _ _ (lies_test (length k.concrete.common.words) call b.0)
    ∙ lock_is k t call go (k.phase t) b.1 b.3 ∙ ap (lock_at k t (after_lock k.buckets (k.phase t) call) b.1) b.4

refused_look : (p : Program) (k : PieceConcrete) (t : ℕ) (l : Look) → BlocksAt (exit_of p.version) (pieces_at k) t l
    → look_step p k t l ≡ Err CannotMove
refused_look p k t (Asks request go) b = refused_call p k t go (call_of request) b
refused_look p k t (Leaves phase) b = cond-true _ _ _ (blocks_test (exit_of p.version) k t (Leaves phase) b)
refused_look p k t (Goes y) b = absurd b
refused_look p k t Breaks b = absurd b
refused_look p k t Rests b = absurd b

-- and where the thread has ended
ended_rests : (p : Program) (t : ℕ) (x : Thread) → has_ended (Some x) ≡ true → look p t x ≡ Rests
ended_rests p t (Runs place operands locals callers) e = absurd cc
ended_rests p t (Dies cause) e = absurd cc
ended_rests p t (Exits (Entry a seen)) e = absurd cc
ended_rests p t (Exits Pending) e = absurd cc
ended_rests p t (Exits ClearId) e = absurd cc
ended_rests p t (Exits LastWake) e = absurd cc
ended_rests p t (Exits Ended) e = refl

ended_refused : (p : Program) (k : PieceConcrete) (t : ℕ) (x : Thread) → thread_of k.concrete t ≡ Some x
    → has_ended (Some x) ≡ true → look_step p k t (look p t x) ≡ Err CannotMove
ended_refused p k t x stands ended =
    ap (look_step p k t) (ended_rests p t x ended)
    ∙ ap (whole_at k) ((refuses_so p k.concrete t).1 (λ can. both_ways (has_ended (Some can.thread)) can.goes_on
    (ap (λ y. has_ended (Some y)) (one_thread _ _ (sym can.stands ∙ stands)) ∙ ended)))

refused_awake : (p : Program) (k : PieceConcrete) (t : ℕ) (x : Thread) (a : Option ℕ) → thread_of k.concrete t ≡ Some x
    → k.concrete.common.asleep t ≡ a → (CanTakePiece p (pieces_at k) t → ⊥) → awake_step p k t x a ≡ Err CannotMove
refused_awake p k t x None stands awake out =
    elim (cases_Bool (has_ended (Some x))) [
      | inl ended ↦ ended_refused p k t x stands ended
      | inr goes ↦ elim (cases_Bool (is_held k (wanted (exit_of p.version) k t (look p t x)))) [
        | inl y ↦ refused_look p k t (look p t x) (blocks_so (exit_of p.version) k t (look p t x) y)
        | inr n ↦ absurd (out (record {
          thread = x;
          stands = stands;
          awake = awake;
          goes_on = goes;
          free = λ b. both_ways (is_held k (wanted (exit_of p.version) k t (look p t x))) n (blocks_test (exit_of p.version) k t (look p t x) b);
        }))
      ]
    ]
refused_awake p k t x (Some a) stands awake out = refl

refused_thread : (p : Program) (k : PieceConcrete) (t : ℕ) (o : Option Thread) → thread_of k.concrete t ≡ o
    → (CanTakePiece p (pieces_at k) t → ⊥) → thread_step p k t o ≡ Err CannotMove
refused_thread p k t None stands out = refl
refused_thread p k t (Some x) stands out = refused_awake p k t x (k.concrete.common.asleep t) stands refl out

pub piece_refuses_so : PieceRefusesSo
piece_refuses_so p k t fit = (
  λ h can. look_refuses p k t (look p t can.thread) fit can refl
      (sym (ap (thread_step p k t) can.stands ∙ ap (awake_step p k t can.thread) can.awake) ∙ h),
  refused_thread p k t (thread_of k.concrete t) refl,
)
