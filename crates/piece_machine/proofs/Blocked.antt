-- Which threads a held bucket is in the way of.
use Rattle.std.proofs.Common.{◌≡◌, ℕ, ◌<◌, ◌≤◌, Bool, true, false, Some, None}
use Rattle.std.proofs.Common.{length, refl, sym, ap, ◌∙◌, subst}
use Rattle.std.specs.Prelude.{MatchBool}
use Rattle.isa.specs.Programs.{Program}
use Rattle.futexcalls.specs.declared.pieces.FutexCall.{FutexCall}
use Rattle.robustexit.specs.ExitRules.{exit_of}
use Rattle.robustexit.specs.declared.rule.ExitRule.{ExitRule}
use Rattle.locals.specs.Threads.{Thread, Exits}
use Rattle.locals.specs.declared.request.Request.{Request as Told}
use Rattle.locals.specs.declared.request.NextStep.TheVariants as next
use Rattle.locals.specs.Looks.{Look, Goes, Asks, Leaves, Breaks, Rests, look}
use Rattle.locals.specs.Requests.{next_step_of}
use Rattle.robustexit.specs.declared.phase.ExitPhase.{ExitPhase}
use Rattle.robustexit.specs.declared.phase.ExitPhase.TheVariants.{Ended}
use Rattle.machine.specs.RequestMeanings.{asked_of}
use Rattle.machine.specs.States.{ConcreteState, thread_of, state_of}
use Rattle.machine.specs.ConcretePieces.{MakesCall}
use Rattle.machine.specs.PieceStates.{PieceState, request_of, call_of, call_at}
use Rattle.machine.specs.PieceSteps.{BlocksAt, BlocksCall, CanTakePiece}
use Rattle.machine.specs.Views.{View, concrete, IsWellFormed}
use Rattle.machine.proofs.Landing.{HasPlace, has_place}
use Rattle.machine.proofs.Steps.{asked_back, no_exit}
use Rattle.machine.proofs.Whole.{stands_at}
use Rattle.piece_machine.specs.PieceViews.{IsBlocked}
use Rattle.piece_machine.proofs.OwnCalls.{one_thread, one_phase, call_back, call_blocks}

-- what follows on each side of a test
pub both : {A B C D : Type 0} (b : Bool) → MatchBool b A B → (A → C) → (B → D) → MatchBool b C D
both true h f g = f h
both false h f g = g h

-- a thread of a number in range was made
pub made : (k : ConcreteState) (t : ℕ) → 0 < t → t ≤ length k.threads → (x : Thread) × (thread_of k t ≡ Some x)
made k t some few = let r = stands_at k.threads t _ (Exits Ended) some few refl in (_, r)

pub never_none : (k : ConcreteState) (t : ℕ) → 0 < t → t ≤ length k.threads → thread_of k t ≡ None → ⊥
never_none k t some few h =
    let m = made k t some few in let e : None ≡ Some m.0 = sym h ∙ m.1 in cc

-- the call that a thread makes whose next step is told so
pub told_is : (l : Look) (request : Told) → next.Shared request ≡ next_step_of l → call_at l ≡ call_of (asked_of request)
told_is (Goes y) request is = absurd cc
told_is (Asks r go) request is = ap call_of (sym (asked_back r request (sym is)))
told_is (Leaves phase) request is = absurd cc
told_is Breaks request is = absurd cc
told_is Rests request is = absurd cc

-- a thread in its exit
pub leaves_as : (l : Look) (phase : ExitPhase) → next.Exit phase ≡ next_step_of l → l ≡ Leaves phase
leaves_as (Goes y) phase is = absurd cc
leaves_as (Asks r go) phase is = absurd (no_exit r phase (sym is))
leaves_as (Leaves q) phase is = ap (λ (f : ExitPhase). Leaves f) (sym (one_phase phase q is))
leaves_as Breaks phase is = absurd cc
leaves_as Rests phase is = absurd cc

-- a held bucket is in the way of a thread just where it is by what it looks like
pub blocked_by : (p : Program) (s : PieceState) (t : ℕ) (x : Thread) (l : Look) → s.base.thread t ≡ Some x
    → look p t x ≡ l → BlocksAt (exit_of p.version) s t l → IsBlocked p s t
blocked_by p s t x l stands looks blocks =
    record { thread = x; stands = stands; blocks = subst (λ (m : Look). BlocksAt (exit_of p.version) s t m) (sym looks) blocks }

pub unblocked_by : (p : Program) (s : PieceState) (t : ℕ) (x : Thread) (l : Look) → s.base.thread t ≡ Some x
    → look p t x ≡ l → (BlocksAt (exit_of p.version) s t l → ⊥) → IsBlocked p s t → ⊥
unblocked_by p s t x l stands looks free b =
    free (subst (λ (m : Look). BlocksAt (exit_of p.version) s t m)
    (ap (look p t) (one_thread b.thread x (sym b.stands ∙ stands)) ∙ looks) b.blocks)

-- the same of a call
pub call_blocks_at : (rule : ExitRule) (s : PieceState) (t : ℕ) (call : FutexCall) (go : ℕ → Thread) → BlocksAt rule s t (Asks (request_of call) go)
    → BlocksCall s t (Some call)
call_blocks_at rule s t call go h = subst (BlocksCall s t) (call_back call) h

-- whether a held bucket is in the way of a thread, by whether one is in the way of its call, and of its exit
pub call_blocked : (v : View) (s : PieceState) (t : ℕ) (call : FutexCall) (b : Bool) → s.base ≡ state_of (concrete v)
    → MakesCall v t call → MatchBool b (BlocksCall s t (Some call)) (BlocksCall s t (Some call) → ⊥)
    → MatchBool b (IsBlocked v.program s t) (IsBlocked v.program s t → ⊥)
call_blocked v s t call b base m h =
    let stands : s.base.thread t ≡ Some m.thread = ap (λ z. z.thread t) base ∙ m.stands in
    both b h
    (λ w. blocked_by v.program s t m.thread (Asks (request_of call) m.go) stands m.asks
    (call_blocks (exit_of v.program.version) s t call m.go w))
    (λ free. unblocked_by v.program s t m.thread (Asks (request_of call) m.go) stands m.asks
    (λ w. free (call_blocks_at (exit_of v.program.version) s t call m.go w)))

pub exit_blocked : (v : View) (s : PieceState) (t : ℕ) (phase : ExitPhase) (b : Bool) → s.base ≡ state_of (concrete v)
    → (x : Thread) → thread_of (concrete v) t ≡ Some x → next.Exit phase ≡ next_step_of (look v.program t x)
    → MatchBool b (BlocksAt (exit_of v.program.version) s t (Leaves phase)) (BlocksAt (exit_of v.program.version) s t (Leaves phase) → ⊥)
    → MatchBool b (IsBlocked v.program s t) (IsBlocked v.program s t → ⊥)
exit_blocked v s t phase b base x at is h =
    let stands : s.base.thread t ≡ Some x = ap (λ z. z.thread t) base ∙ at in
    let looks = leaves_as (look v.program t x) phase is in
    both b h (λ w. blocked_by v.program s t x (Leaves phase) stands looks w)
    (λ free. unblocked_by v.program s t x (Leaves phase) stands looks free)

-- who can take a piece was made
pub mover_made : (p : Program) (k : ConcreteState) (s : PieceState) (t : ℕ) → IsWellFormed p k → s.base ≡ state_of k
    → CanTakePiece p s t → HasPlace k t
mover_made p k s t well base c = has_place p k t c.thread well (sym (ap (λ z. z.thread t) base) ∙ c.stands)
