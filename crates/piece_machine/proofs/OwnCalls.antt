-- A thread that makes a futex call.
use Rattle.std.proofs.Common.{◌≡◌, ℕ, ◌⊎◌, inl, inr, true, false, is_some, Option, Some, None, refl, sym, ap, ◌∙◌, subst}
use Rattle.words.specs.declared.mem.Addr.{Addr}
use Rattle.isa.specs.Programs.{Program}
use Rattle.buckets.specs.Places.{names}
use Rattle.futexcalls.specs.declared.pieces.FutexCall.{FutexCall}
use Rattle.futexcalls.specs.declared.pieces.FutexCall.TheVariants.{Wait, Wake, Requeue}
use Rattle.futexcalls.specs.declared.pieces.FutexPhase.TheVariants.{First}
use Rattle.futexcalls.specs.Pieces.{held_at, IsPhase, LiesIn}
use Rattle.robustexit.specs.ExitRules.{exit_of}
use Rattle.robustexit.specs.declared.rule.ExitRule.{ExitRule}
use Rattle.locals.specs.Threads.{Thread}
use Rattle.robustexit.specs.declared.phase.ExitPhase.{ExitPhase}
use Rattle.locals.specs.declared.request.Request.{Request as Told}
use Rattle.locals.specs.declared.request.NextStep.{NextStep}
use Rattle.locals.specs.declared.request.NextStep.TheVariants as next
use Rattle.locals.specs.Looks.{Request, AskLoad, AskStore, AskSwap, AskCompareSwap, AskOr, AskAdd, AskFork, AskPrint}
use Rattle.locals.specs.Looks.{AskWait, AskWake, AskRequeue, AskReturn, AskReturnValue, AskFault, Look, Goes, Asks}
use Rattle.locals.specs.Looks.{Leaves, Breaks, Rests, look}
use Rattle.locals.specs.Requests.{next_step_of}
use Rattle.machine.specs.RequestMeanings.{asked_of}
use Rattle.machine.specs.ConcretePieces.{MakesCall}
use Rattle.machine.specs.Views.{View, concrete, address_of}
use Rattle.machine.proofs.Steps.{asked_back, no_exit}
use Rattle.machine.specs.States.{State, state_of, thread_of}
use Rattle.piece_machine.specs.PieceViews.{IsApart}
use Rattle.machine.specs.Runs.{IsBroken}
use Rattle.machine.specs.PieceStates.{PieceState, request_of, call_of, call_at, called, IsHeldRight}
use Rattle.machine.specs.PieceSteps.{BlocksAt, BlocksCall, CanTakePiece, NextPieceIsBroken}

pub call_back : (call : FutexCall) → call_of (request_of call) ≡ Some call
call_back (Wait a expected) = refl
call_back (Wake a wakes) = refl
call_back (Requeue a b wakes moves expected) = refl

-- the call that a thread makes which asks for one
pub called_is : (p : Program) (t : ℕ) (x : Thread) (call : FutexCall) (go : ℕ → Thread) (o : Option Thread) → o ≡ Some x
    → look p t x ≡ Asks (request_of call) go → called p t o ≡ Some call
called_is p t x call go o stands looks = ap (called p t) stands ∙ ap call_at looks ∙ call_back call

pub one_call : (a b : FutexCall) → Some a ≡ Some b → a ≡ b
one_call a b h = cc

pub one_phase : (a b : ExitPhase) → next.Exit a ≡ next.Exit b → a ≡ b
one_phase a b h = cc

pub one_thread : (x y : Thread) → Some x ≡ Some y → x ≡ y
one_thread x y h = cc

-- the phase of a thread that makes a call is one of that call
pub stands_in : (p : Program) (s : PieceState) (t : ℕ) (x : Thread) (call : FutexCall) (go : ℕ → Thread)
    → IsHeldRight p s → s.base.thread t ≡ Some x → look p t x ≡ Asks (request_of call) go
    → (s.phase t ≡ First) ⊎ (IsPhase s.buckets (s.phase t) call × LiesIn s.base.size call)
stands_in p s t x call go right stands asks = elim (right.apart t) [
  | inl f ↦ inl f
  | inr w ↦
      let same : w.call ≡ call = one_call w.call call
      (sym (called_is p t w.thread w.call w.go (s.base.thread t) w.stands w.asks)
      ∙ called_is p t x call go (s.base.thread t) stands asks) in
      inr (
        subst (IsPhase s.buckets (s.phase t)) same w.there,
        subst (LiesIn s.base.size) same w.lies,
      )
]

-- it holds the buckets of its phase
pub holds : (p : Program) (s : PieceState) (t : ℕ) (x : Thread) (call : FutexCall) (go : ℕ → Thread) (k : ℕ)
    → IsHeldRight p s → s.base.thread t ≡ Some x → look p t x ≡ Asks (request_of call) go
    → names (held_at s.buckets (s.phase t) (Some call)) k ≡ true → s.holder k ≡ Some t
holds p s t x call go k right stands asks h =
    right.all k t (ap (λ o. names (held_at s.buckets (s.phase t) o) k)
    (called_is p t x call go (s.base.thread t) stands asks) ∙ h)

broken_call : (s : State) (call : FutexCall) (go : ℕ → Thread) → (LiesIn s.size call → ⊥)
    → IsBroken s (Asks (request_of call) go)
broken_call s (Wait a expected) go h = h
broken_call s (Wake a wakes) go h = h
broken_call s (Requeue a b wakes moves expected) go h = h

-- where a word of its call lies outside the memory its next step may not be
pub breaks : (p : Program) (s : PieceState) (t : ℕ) (x : Thread) (call : FutexCall) (go : ℕ → Thread)
    → IsHeldRight p s → s.base.thread t ≡ Some x → s.base.asleep t ≡ None
    → look p t x ≡ Asks (request_of call) go → (LiesIn s.base.size call → ⊥) → NextPieceIsBroken p s t
breaks p s t x call go right stands awake asks out = (
  elim (stands_in p s t x call go right stands asks) [ inl f ↦ f | inr w ↦ absurd (out w.1) ],
  record { thread = x; stands = stands; awake = awake; breaks = rw asks (broken_call s.base call go out) },
)

-- a held bucket is in the way of a thread that looks so
pub in_the_way : (p : Program) (s : PieceState) (t : ℕ) (x : Thread) (l : Look) → s.base.thread t ≡ Some x
    → look p t x ≡ l → BlocksAt (exit_of p.version) s t l → CanTakePiece p s t → ⊥
in_the_way p s t x l stands looks blocks can =
    can.free (subst (λ (m : Look). BlocksAt (exit_of p.version) s t m)
    (sym looks ∙ ap (look p t) (one_thread x can.thread (sym stands ∙ can.stands))) blocks)

pub call_blocks : (rule : ExitRule) (s : PieceState) (t : ℕ) (call : FutexCall) (go : ℕ → Thread) → BlocksCall s t (Some call)
    → BlocksAt rule s t (Asks (request_of call) go)
call_blocks rule s t call go h = rw (call_back call) h

-- a request that is told as a call is that call's
pub told_call : (r : Request) (call : FutexCall) → call_of r ≡ Some call → r ≡ request_of call
told_call (AskWait a expected) call h = ap request_of (one_call _ call h)
told_call (AskWake a wakes) call h = ap request_of (one_call _ call h)
told_call (AskRequeue a b wakes moves expected) call h = ap request_of (one_call _ call h)
told_call (AskLoad a) call h = absurd cc
told_call (AskStore a v) call h = absurd cc
told_call (AskSwap a v) call h = absurd cc
told_call (AskCompareSwap a expected new) call h = absurd cc
told_call (AskOr a v) call h = absurd cc
told_call (AskAdd a v) call h = absurd cc
told_call (AskFork entry arguments room) call h = absurd cc
told_call (AskPrint number) call h = absurd cc
told_call AskReturn call h = absurd cc
told_call (AskReturnValue v) call h = absurd cc
told_call (AskFault cause) call h = absurd cc

-- a thread that is told to sleep nowhere
pub awake_of : (o : Option Addr) (x : Option ℕ) → is_some o ≡ false → address_of o ≡ x → x ≡ None
awake_of None x h e = sym e
awake_of (Some a) x h e = absurd cc

-- a thread that was made
pub made_of : (o : Option Thread) → (o ≡ None → ⊥) → (x : Thread) × (o ≡ Some x)
made_of None h = absurd (h refl)
made_of (Some x) h = (x, refl)

pub asks_call : (l : Look) (request : Told) (call : FutexCall) → next.Shared request ≡ next_step_of l
    → Some call ≡ call_of (asked_of request) → (go : ℕ → Thread) × (l ≡ Asks (request_of call) go)
asks_call (Goes y) request call is h = absurd cc
asks_call (Asks r go) request call is h = (
  go,
  ap (λ q. Asks q go) (told_call r call (ap call_of (sym (asked_back r request (sym is))) ∙ sym h)),
)
asks_call (Leaves phase) request call is h = absurd cc
asks_call Breaks request call is h = absurd cc
asks_call Rests request call is h = absurd cc

pub makes_call : (v : View) (t : ℕ) (request : Told) (call : FutexCall) → (thread_of (concrete v) t ≡ None → ⊥)
    → ((x : Thread) → thread_of (concrete v) t ≡ Some x → next.Shared request ≡ next_step_of (look v.program t x))
    → Some call ≡ call_of (asked_of request) → MakesCall v t call
makes_call v t request call made is h =
    let m = made_of (thread_of (concrete v) t) made in
    let a = asks_call (look v.program t m.0) request call (is m.0 m.1) h in
    record { thread = m.0; go = a.0; stands = m.1; asks = a.1 }

-- a thread that asks for something else
pub none_asked : (rule : ExitRule) (s : PieceState) (t : ℕ) (l : Look) (request : Told) → next.Shared request ≡ next_step_of l
    → None ≡ call_of (asked_of request) → (call_at l ≡ None) × (BlocksAt rule s t l → ⊥)
none_asked rule s t (Goes y) request is h = absurd cc
none_asked rule s t (Asks r go) request is h =
    let none : call_of r ≡ None = ap call_of (sym (asked_back r request (sym is))) ∙ sym h in
    (none, λ b. subst (BlocksCall s t) none b)
none_asked rule s t (Leaves phase) request is h = absurd cc
none_asked rule s t Breaks request is h = absurd cc
none_asked rule s t Rests request is h = absurd cc

pub apart_asks : (v : View) (s : PieceState) (t : ℕ) (request : Told) → s.base ≡ state_of (concrete v)
    → s.base.asleep t ≡ None → (thread_of (concrete v) t ≡ None → ⊥)
    → ((x : Thread) → thread_of (concrete v) t ≡ Some x → next.Shared request ≡ next_step_of (look v.program t x))
    → None ≡ call_of (asked_of request) → IsApart v.program s t
apart_asks v s t request base awake made is h =
    let m = made_of (thread_of (concrete v) t) made in
    let n = none_asked _ s t (look v.program t m.0) request (is m.0 m.1) h in
    record {
      thread = m.0;
      stands = ap (λ (b : State). b.thread t) base ∙ m.1;
      awake = awake;
      none = n.0;
      free = n.1;
    }

-- a thread in its exit
pub leaves : (rule : ExitRule) (s : PieceState) (t : ℕ) (l : Look) (phase : ExitPhase) → next.Exit phase ≡ next_step_of l
    → (BlocksAt rule s t (Leaves phase) → ⊥) → (call_at l ≡ None) × (BlocksAt rule s t l → ⊥)
leaves rule s t (Goes y) phase is free = absurd cc
leaves rule s t (Asks r go) phase is free = absurd (no_exit r phase (sym is))
leaves rule s t (Leaves q) phase is free =
    let same : phase ≡ q = one_phase phase q is in (
      refl,
      λ b. free (subst (λ (f : ExitPhase). BlocksAt rule s t (Leaves f))
          (sym same) b),
    )
leaves rule s t Breaks phase is free = absurd cc
leaves rule s t Rests phase is free = absurd cc

pub apart_leaves : (v : View) (s : PieceState) (t : ℕ) (phase : ExitPhase) → s.base ≡ state_of (concrete v)
    → s.base.asleep t ≡ None → (thread_of (concrete v) t ≡ None → ⊥)
    → ((x : Thread) → thread_of (concrete v) t ≡ Some x → next.Exit phase ≡ next_step_of (look v.program t x))
    → (BlocksAt (exit_of v.program.version) s t (Leaves phase) → ⊥) → IsApart v.program s t
apart_leaves v s t phase base awake made is free =
    let m = made_of (thread_of (concrete v) t) made in
    let n = leaves _ s t (look v.program t m.0) phase (is m.0 m.1) free in
    record {
      thread = m.0;
      stands = ap (λ (b : State). b.thread t) base ∙ m.1;
      awake = awake;
      none = n.0;
      free = n.1;
    }

-- a thread before any other step
pub others : (rule : ExitRule) (s : PieceState) (t : ℕ) (l : Look) (n : NextStep) → n ≡ next_step_of l
    → ((request : Told) → n ≡ next.Shared request → ⊥) → ((phase : ExitPhase) → n ≡ next.Exit phase → ⊥)
    → (call_at l ≡ None) × (BlocksAt rule s t l → ⊥)
others rule s t (Goes y) n is ns ne = (refl, λ b. b)
others rule s t (Asks (AskFork entry arguments room) go) n is ns ne = (refl, λ b. b)
others rule s t (Asks (AskLoad a) go) n is ns ne = absurd (ns _ is)
others rule s t (Asks (AskStore a v) go) n is ns ne = absurd (ns _ is)
others rule s t (Asks (AskSwap a v) go) n is ns ne = absurd (ns _ is)
others rule s t (Asks (AskCompareSwap a expected new) go) n is ns ne = absurd (ns _ is)
others rule s t (Asks (AskOr a v) go) n is ns ne = absurd (ns _ is)
others rule s t (Asks (AskAdd a v) go) n is ns ne = absurd (ns _ is)
others rule s t (Asks (AskPrint number) go) n is ns ne = absurd (ns _ is)
others rule s t (Asks (AskWait a expected) go) n is ns ne = absurd (ns _ is)
others rule s t (Asks (AskWake a wakes) go) n is ns ne = absurd (ns _ is)
others rule s t (Asks (AskRequeue a b wakes moves expected) go) n is ns ne = absurd (ns _ is)
others rule s t (Asks AskReturn go) n is ns ne = absurd (ns _ is)
others rule s t (Asks (AskReturnValue v) go) n is ns ne = absurd (ns _ is)
others rule s t (Asks (AskFault cause) go) n is ns ne = absurd (ns _ is)
others rule s t (Leaves phase) n is ns ne = absurd (ne phase is)
others rule s t Breaks n is ns ne = (refl, λ b. b)
others rule s t Rests n is ns ne = (refl, λ b. b)

pub apart_others : (v : View) (s : PieceState) (t : ℕ) (n : NextStep) → s.base ≡ state_of (concrete v)
    → s.base.asleep t ≡ None → (thread_of (concrete v) t ≡ None → ⊥)
    → ((x : Thread) → thread_of (concrete v) t ≡ Some x → n ≡ next_step_of (look v.program t x))
    → ((request : Told) → n ≡ next.Shared request → ⊥) → ((phase : ExitPhase) → n ≡ next.Exit phase → ⊥)
    → IsApart v.program s t
apart_others v s t n base awake made is ns ne =
    let m = made_of (thread_of (concrete v) t) made in
    let r = others _ s t (look v.program t m.0) n (is m.0 m.1) ns ne in
    record {
      thread = m.0;
      stands = ap (λ (b : State). b.thread t) base ∙ m.1;
      awake = awake;
      none = r.0;
      free = r.1;
    }
