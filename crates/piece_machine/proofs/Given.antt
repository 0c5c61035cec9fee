-- What the step of a thread comes to, by what it does next, and what it is refused for.
use Rattle.std.proofs.Common.{◌≡◌, ℕ, ◌-◌, length, length-set, Option, Some, None, Result, Ok, Err, inl, inr, refl, sym}
use Rattle.std.proofs.Common.{ap, ◌∙◌}
use Rattle.std.proofs.lemmas.Bool.{cases_Bool, cond-true, cond-false}
use Rattle.isa.specs.Programs.{Program}
use Rattle.futexcalls.specs.declared.pieces.FutexCall.{FutexCall}
use Rattle.robustexit.specs.ExitRules.{exit_of}
use Rattle.locals.specs.Threads.{Thread}
use Rattle.locals.specs.Looks.{Look, Goes, Asks, Leaves, Breaks, Rests, look}
use Rattle.machine.specs.declared.event.Event.{Event}
use Rattle.machine.specs.declared.event.StepFault.{StepFault}
use Rattle.machine.specs.declared.event.StepFault.TheVariants.{CannotMove, Broken}
use Rattle.machine.specs.States.{ConcreteState}
use Rattle.machine.specs.ConcreteSteps.{Stepped, step_of, on_machine, fault_of, fault_at}
use Rattle.machine.specs.PieceStates.{request_of, call_at}
use Rattle.machine.specs.PieceSteps.{BlocksAt}
use Rattle.machine.proofs.Placing.{thread_at-put}
use Rattle.machine.proofs.Whole.{stepped}
use Rattle.piece_machine.specs.PieceViews.{IsApart, RefusesCall}
use Rattle.piece_machine.specs.PieceConcrete.{PieceConcrete, Outcome, pieces_at, wanted, is_held, whole_at, piece_at}
use Rattle.piece_machine.specs.PieceConcrete.{call_step, look_step, awake_step, thread_step, piece_of, with_local}
use Rattle.piece_machine.specs.PieceConcrete.{piece_fault_at}
use Rattle.piece_machine.specs.PieceDetermined.{IsFit}
use Rattle.piece_machine.proofs.OwnCalls.{call_back, call_blocks, in_the_way, breaks}
use Rattle.piece_machine.proofs.Wanted.{lies_test, blocks_so}
use Rattle.piece_machine.specs.PieceTaken.{Calls}
use Rattle.piece_machine.proofs.Cases.{Stands, apart}
use Rattle.piece_machine.proofs.Refused.{piece_not, piece_held, there_of, piece_breaks_so, piece_refuses_so}

-- the step of a thread that is awake, by what it looks like
stands_is : (p : Program) (k : PieceConcrete) (t : ℕ) (x : Thread) (l : Look) → Stands p k t x → look p t x ≡ l
    → piece_of p k t ≡ look_step p k t l
stands_is p k t x l stands looks =
    ap (thread_step p k t) stands.0 ∙ ap (awake_step p k t x) stands.1 ∙ ap (look_step p k t) looks

-- a step that is none of a call
apart_is : (p : Program) (k : PieceConcrete) (t : ℕ) (l : Look) → call_at l ≡ None → (BlocksAt (exit_of p.version) (pieces_at k) t l → ⊥)
    → look_step p k t l ≡ whole_at k (step_of p k.concrete t)
apart_is p k t (Asks request go) none free = ap (call_step p k t go) none
apart_is p k t (Leaves phase) none free =
    elim (cases_Bool (is_held k (wanted (exit_of p.version) k t (Leaves phase)))) [
      | inl y ↦ absurd (free (blocks_so (exit_of p.version) k t (Leaves phase) y))
      | inr n ↦ cond-false _ _ _ n
    ]
apart_is p k t (Goes y) none free = refl
apart_is p k t Breaks none free = refl
apart_is p k t Rests none free = refl

pub whole_is : (p : Program) (k : PieceConcrete) (t : ℕ) → IsApart p (pieces_at k) t
    → piece_of p k t ≡ whole_at k (step_of p k.concrete t)
whole_is p k t a =
    stands_is p k t a.thread (look p t a.thread) (a.stands, a.awake) refl
    ∙ apart_is p k t (look p t a.thread) a.none a.free

-- a piece of a call
pub call_is : (p : Program) (k : PieceConcrete) (t : ℕ) (call : FutexCall) (go : ℕ → Thread) → Calls p k t call go
    → piece_of p k t ≡ piece_at k t call go (k.phase t)
call_is p k t call go calls =
    stands_is p k t calls.thread (Asks (request_of call) go) (calls.stands, calls.awake) calls.asks
    ∙ ap (call_step p k t go) (call_back call)
    ∙ cond-true _ _ _ (lies_test (length k.concrete.common.words) call calls.lies)

-- a thread in whose way a held bucket is
pub held_up : (p : Program) (k : PieceConcrete) (t : ℕ) (x : Thread) (l : Look) → IsFit p k → Stands p k t x
    → look p t x ≡ l → BlocksAt (exit_of p.version) (pieces_at k) t l → piece_of p k t ≡ Err CannotMove
held_up p k t x l fit stands looks blocks =
    (piece_refuses_so p k t fit).1 (in_the_way p (pieces_at k) t x l stands.0 looks blocks)

-- what a piece of a call is refused for
unrefused : (r : Outcome) → (r ≡ Err CannotMove → ⊥) → (r ≡ Err Broken → ⊥) → None ≡ fault_of r
unrefused (Ok q) moves fine = refl
unrefused (Err CannotMove) moves fine = absurd (moves refl)
unrefused (Err Broken) moves fine = absurd (fine refl)

pub call_fault : (p : Program) (k : PieceConcrete) (t : ℕ) (x : Thread) (call : FutexCall) (go : ℕ → Thread)
    (o : Option StepFault) → IsFit p k → Stands p k t x → look p t x ≡ Asks (request_of call) go
    → RefusesCall (pieces_at k) t call o → o ≡ fault_of (piece_of p k t)
call_fault p k t x call go (Some Broken) fit stands asks out =
    sym (ap fault_of ((piece_breaks_so p k t fit).1
    (breaks p (pieces_at k) t x call go fit.right stands.0 stands.1 asks out)))
call_fault p k t x call go (Some CannotMove) fit stands asks blocks =
    sym (ap fault_of (held_up p k t x (Asks (request_of call) go) fit stands asks
    (call_blocks (exit_of p.version) (pieces_at k) t call go blocks)))
call_fault p k t x call go None fit stands asks free =
    unrefused (piece_at k t call go (k.phase t)) (λ h.
    let held = piece_held k t call go (k.phase t) (there_of p k t x call go fit stands.0 asks) h in
    free.1 (free.0, held.0, held.1, held.2, held.3)) (piece_not k t call go (k.phase t))
    ∙ sym (ap fault_of (call_is p k t call go (record {
      thread = x;
      stands = stands.0;
      awake = stands.1;
      asks = asks;
      lies = free.0;
    })))

-- a thread that its local steps led on
pub led_on : (p : Program) (k : PieceConcrete) (t : ℕ) (x here : Thread) → Stands p k t x
    → Stands p (with_local k t here) t here
led_on p k t x here stands = (thread_at-put k.concrete.threads t x here stands.0, stands.1)

-- what its step is refused for, where that is a piece of a call
pub led_refuses : (k : PieceConcrete) (t : ℕ) (here : Thread) (call : FutexCall) (o : Option StepFault)
    → RefusesCall (pieces_at k) t call o → RefusesCall (pieces_at (with_local k t here)) t call o
led_refuses k t here call None h = h
led_refuses k t here call (Some CannotMove) h = h
led_refuses k t here call (Some Broken) h = h

-- and where it is none
whole_fault : (k : PieceConcrete) (r : Result (ConcreteState × Event) StepFault) → fault_of (whole_at k r) ≡ fault_of r
whole_fault k (Ok q) = refl
whole_fault k (Err f) = refl

machine_fault : (k : ConcreteState) (t : ℕ) (r : Result Stepped StepFault) → fault_of (on_machine k t r) ≡ fault_of r
machine_fault k t (Ok q) = refl
machine_fault k t (Err f) = refl

pub apart_fault : (p : Program) (k : PieceConcrete) (t : ℕ) (x here : Thread) → Stands p k t x
    → (call_at (look p t here) ≡ None) × (BlocksAt (exit_of p.version) (pieces_at (with_local k t here)) t (look p t here) → ⊥)
    → fault_at p k.concrete t here ≡ piece_fault_at p k t here
apart_fault p k t x here stands h =
    let to = with_local k t here in
    let there = led_on p k t x here stands in
    sym (ap fault_of (whole_is p to t (apart p to t here (look p t here) there refl h.0 h.1))
    ∙ whole_fault to (step_of p to.concrete t)
    ∙ ap fault_of (stepped p to.concrete t (length k.concrete.threads) here _ there.0 there.1
    (sym (length-set k.concrete.threads (t - 1) here)) refl) ∙ machine_fault to.concrete t _)
