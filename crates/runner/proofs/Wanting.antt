-- A thread of which it is known which bucket it wants is held up as long as that is held, and wants it still behind the
-- entries of others.
use Rattle.std.proofs.Common.{◌≡◌, ◌≢◌, ℕ, ◌%◌, ◌<◌, Bool, true, false, List, [], ◌∷◌, length, Option, Some}
use Rattle.std.proofs.Common.{None, Result, Ok, Err, IfOk, inl, inr, refl, sym, ap, ◌∙◌, subst}
use Rattle.std.specs.Prelude.{if◌then◌else◌, nat_le}
use Rattle.std.specs.Result.{result_and}
use Rattle.std.proofs.Math.Nat.{mod-lt}
use Rattle.std.proofs.lemmas.Bool.{cases_Bool, eq-eqb}
use Rattle.isa.specs.Programs.{Program}
use Rattle.buckets.specs.Places.{names}
use Rattle.futexcalls.specs.declared.pieces.FutexCall.{FutexCall}
use Rattle.futexcalls.specs.declared.pieces.FutexCall.TheVariants.{Wait, Wake, Requeue}
use Rattle.futexcalls.specs.declared.pieces.FutexPhase.{FutexPhase}
use Rattle.futexcalls.specs.declared.pieces.FutexPhase.TheVariants.{First, Second, Compare, Act}
use Rattle.futexcalls.specs.Pieces.{after_lock, greater, held_at, takes_at, IsPhase}
use Rattle.locals.specs.declared.request.Request.{Request as Told}
use Rattle.locals.specs.declared.request.NextStep.{NextStep}
use Rattle.locals.specs.declared.request.NextStep.TheVariants as next
use Rattle.locals.specs.Looks.{Look, Goes, Asks, Leaves, Breaks, Rests, look}
use Rattle.locals.specs.Requests.{next_step_of}
use Rattle.locals.specs.Steps.{local_next, local_step, local_after}
use Rattle.locals.specs.Threads.{Thread}
use Rattle.buckets.specs.Sleepers.{bucket_count, holder_of}
use Rattle.machine.specs.ConcreteSteps.{can_move, fault_of}
use Rattle.machine.specs.PieceStates.{call_at, call_of, called}
use Rattle.machine.specs.RequestMeanings.{asked_of}
use Rattle.machine.specs.States.{thread_of}
use Rattle.machine.specs.Views.{View}
use Rattle.machine.specs.declared.event.Event.{Event}
use Rattle.machine.specs.declared.event.StepFault.{StepFault}
use Rattle.machine.specs.declared.event.StepFault.TheVariants.{Broken, CannotMove}
use Rattle.piece_machine.specs.PieceConcrete.{PieceConcrete, Outcome, call_step, lies_in, lock_at, look_step, piece_at}
use Rattle.piece_machine.specs.PieceConcrete.{piece_fault_at, take_at, with_local}
use Rattle.piece_machine.specs.PieceDetermined.{IsFit}
use Rattle.piece_machine.specs.PieceViews.{PieceView as MachineView, GoesTo, parts}
use Rattle.piece_machine.proofs.Blocked.{told_is}
use Rattle.piece_machine.proofs.OwnCalls.{call_back, one_call}
use Rattle.runner.specs.declared.attempt.Obstacle.{Obstacle}
use Rattle.runner.specs.declared.attempt.Obstacle.TheVariants as obstacle
use Rattle.runner.specs.declared.in_place.Taken.{Taken}
use Rattle.runner.specs.Attempts.{AsksFirst, HasEntered, WantsBucket}
use Rattle.runner.specs.Entries.{taken_entry}
use Rattle.runner.specs.Logs.{EntersOwn}
use Rattle.runner.specs.Reports.{IsHeldUp}
use Rattle.runner.specs.Walks.{Turns}
use Rattle.runner.proofs.Handing.{piece_there, refused_end, up}
use Rattle.runner.proofs.Passing.{Apart, entered_apart, moves_stay}
use Rattle.runner.proofs.Waiting.{stays_there}

-- the bucket that a call takes first is one that there is
lesser_inside : (b : Bool) (i j n : ℕ) → i < n → j < n → (if b then i else j) < n
lesser_inside true i j n l r = l
lesser_inside false i j n l r = r

pub some_is : (a b : ℕ) → Some a ≡ Some b → a ≡ b
some_is a b h = cc

pub first_inside : (n b : ℕ) (call : FutexCall) → 0 < n → takes_at n First call ≡ Some b → b < n
first_inside n b (Wait a expected) some takes = subst (λ (x : ℕ). x < n) (some_is _ b takes) (mod-lt a.0 some)
first_inside n b (Wake a wakes) some takes = subst (λ (x : ℕ). x < n) (some_is _ b takes) (mod-lt a.0 some)
first_inside n b (Requeue a c wakes moves expected) some takes =
    subst (λ (x : ℕ). x < n) (some_is _ b takes)
    (lesser_inside (nat_le (a.0 % n) (c.0 % n)) (a.0 % n) (c.0 % n) n (mod-lt a.0 some) (mod-lt c.0 some))

-- where another thread holds it, the thread is held up
held_step : (p : Program) (k : PieceConcrete) (t b u : ℕ) (go : ℕ → Thread) (o : Option FutexCall) (call : FutexCall)
    → o ≡ Some call → lies_in (length k.concrete.common.words) call ≡ true → k.phase t ≡ First
    → takes_at k.buckets First call ≡ Some b → k.holder b ≡ Some u → call_step p k t go o ≡ Err CannotMove
held_step p k t b u go o call is lies first takes holds =
    ap (call_step p k t go) is
    ∙ ap (λ (x : Bool). if x then piece_at k t call go (k.phase t) else Err Broken) lies
    ∙ ap (piece_at k t call go) first
    ∙ ap (take_at k t (after_lock k.buckets First call)) takes
    ∙ ap (lock_at k t (after_lock k.buckets First call) b) holds

held_look : (p : Program) (k : PieceConcrete) (t b u : ℕ) (l : Look) (call : FutexCall) → call_at l ≡ Some call
    → lies_in (length k.concrete.common.words) call ≡ true → k.phase t ≡ First
    → takes_at k.buckets First call ≡ Some b → k.holder b ≡ Some u → look_step p k t l ≡ Err CannotMove
held_look p k t b u (Asks request go) call is lies first takes holds =
    held_step p k t b u go (call_of request) call is lies first takes holds
held_look p k t b u (Goes x) call is lies first takes holds = absurd cc
held_look p k t b u (Leaves phase) call is lies first takes holds = absurd cc
held_look p k t b u Breaks call is lies first takes holds = absurd cc
held_look p k t b u Rests call is lies first takes holds = absurd cc

call_waits : (l : Look) (call : FutexCall) → call_at l ≡ Some call → local_next l ≡ None
call_waits (Asks request go) call is = refl
call_waits (Goes x) call is = absurd cc
call_waits (Leaves phase) call is = absurd cc
call_waits Breaks call is = absurd cc
call_waits Rests call is = absurd cc

pub held_up_so : (p : Program) (k : PieceConcrete) (t b u : ℕ) → WantsBucket p k t b → k.holder b ≡ Some u
    → IsHeldUp p k t
held_up_so p k t b u w holds =
    let there = with_local k t w.here in
    let awake = (up k.concrete t w.moves).awake in
    record {
      count = w.count;
      origin = w.origin;
      here = w.here;
      moves = w.moves;
      stands = w.stands;
      goes = w.goes;
      turn = w.turn;
      whole = w.whole;
      waits = refused_end there _ (local_step p t w.here) CannotMove (call_waits (look p t w.here) w.asks.call w.asks.calls)
          (piece_there p k t w.origin w.here awake w.stands
          ∙ held_look p there t b u (look p t w.here) w.asks.call w.asks.calls w.lies w.asks.first w.asks.takes holds);
    }

-- where it is refused for a bucket, the words of its call lie in the memory
outside_step : (p : Program) (k : PieceConcrete) (t : ℕ) (go : ℕ → Thread) (o : Option FutexCall) (call : FutexCall)
    → o ≡ Some call → lies_in (length k.concrete.common.words) call ≡ false → call_step p k t go o ≡ Err Broken
outside_step p k t go o call is out =
    ap (call_step p k t go) is
    ∙ ap (λ (x : Bool). if x then piece_at k t call go (k.phase t) else Err Broken) out

outside_look : (p : Program) (k : PieceConcrete) (t : ℕ) (l : Look) (call : FutexCall) → call_at l ≡ Some call
    → lies_in (length k.concrete.common.words) call ≡ false → look_step p k t l ≡ Err Broken
outside_look p k t (Asks request go) call is out = outside_step p k t go (call_of request) call is out
outside_look p k t (Goes x) call is out = absurd cc
outside_look p k t (Leaves phase) call is out = absurd cc
outside_look p k t Breaks call is out = absurd cc
outside_look p k t Rests call is out = absurd cc

other_fault : (r : Outcome) → r ≡ Err Broken → fault_of r ≡ Some CannotMove → ⊥
other_fault r breaks waits = broken_waits (sym (ap fault_of breaks) ∙ waits)
  where
    broken_waits : (let O : Type 0 = Option StepFault in (let a : O = Some Broken in a) ≡ (let b : O = Some CannotMove in b))
        → ⊥
    broken_waits h = cc

lies_there : (p : Program) (k : PieceConcrete) (t : ℕ) (o here : Thread) (call : FutexCall)
    → can_move k.concrete t ≡ true → thread_of k.concrete t ≡ Some o → call_at (look p t here) ≡ Some call
    → piece_fault_at p k t here ≡ Some CannotMove → lies_in (length k.concrete.common.words) call ≡ true
lies_there p k t o here call moves stands calls waits = elim (cases_Bool (lies_in (length k.concrete.common.words) call)) [
  | inl lies ↦ lies
  | inr out ↦ absurd (other_fault _ (piece_there p k t o here (up k.concrete t moves).awake stands
      ∙ outside_look p (with_local k t here) t (look p t here) call calls out) waits)
]

pub wants_so : (p : Program) (k : PieceConcrete) (t b n : ℕ) (o here : Thread) → thread_of k.concrete t ≡ Some o
    → can_move k.concrete t ≡ true → Turns p t n o here → piece_fault_at p k t here ≡ Some CannotMove
    → AsksFirst p k t b here → WantsBucket p k t b
wants_so p k t b n o here stands moves turns waits asks = record {
  count = n;
  origin = o;
  here = here;
  moves = moves;
  stands = stands;
  goes = turns.goes;
  turn = turns.turn;
  whole = turns.whole;
  asks = asks;
  lies = lies_there p k t o here asks.call moves stands asks.calls waits;
}

-- who is within a call holds the bucket that it takes first
names_first : (x : ℕ) (xs : List ℕ) → names (x ∷ xs) x ≡ true
names_first x xs = rw (eq-eqb x x refl) refl

names_it : (x b : ℕ) (xs : List ℕ) → Some x ≡ Some b → names (x ∷ xs) b ≡ true
names_it x b xs is = subst (λ (y : ℕ). names (x ∷ xs) y ≡ true) (some_is x b is) (names_first x xs)

held_first : (n b : ℕ) (phase : FutexPhase) (call : FutexCall) → IsPhase n phase call → takes_at n First call ≡ Some b
    → names (held_at n phase (Some call)) b ≡ true
held_first n b First call there takes = absurd there
held_first n b Second (Wait a expected) there takes = absurd there
held_first n b Second (Wake a wakes) there takes = absurd there
held_first n b Second (Requeue a c wakes moves expected) there takes = names_it _ b [] takes
held_first n b Compare (Wait a expected) there takes = names_it _ b [] takes
held_first n b Compare (Wake a wakes) there takes = absurd there
held_first n b Compare (Requeue a c wakes moves expected) there takes = names_it _ b (greater (a.0 % n) (c.0 % n) ∷ []) takes
held_first n b Act (Wait a expected) there takes = names_it _ b [] takes
held_first n b Act (Wake a wakes) there takes = names_it _ b [] takes
held_first n b Act (Requeue a c wakes moves expected) there takes = names_it _ b (greater (a.0 % n) (c.0 % n) ∷ []) takes

called_there : (p : Program) (t : ℕ) (o : Option Thread) (x : Thread) (call : FutexCall) → o ≡ Some x
    → call_at (look p t x) ≡ Some call → called p t o ≡ Some call
called_there p t o x call stands calls = ap (called p t) stands ∙ calls

-- where another holds it, the thread is outside calls
pub first_so : (p : Program) (k : PieceConcrete) (t b u n : ℕ) (o here : Thread) (call : FutexCall) → IsFit p k
    → thread_of k.concrete t ≡ Some o → local_after p t n o ≡ Some here → call_at (look p t here) ≡ Some call
    → takes_at k.buckets First call ≡ Some b → k.holder b ≡ Some u → u ≢ t → k.phase t ≡ First
first_so p k t b u n o here call fit stands goes calls takes holds other = elim (fit.right.apart t) [
  | inl outside ↦ outside
  | inr w ↦
      let one : Some o ≡ Some w.thread = sym stands ∙ w.stands in
      let from : o ≡ w.thread = cc in
      let still : local_step p t o ≡ None = ap (λ (x : Thread). local_step p t x) from ∙ ap local_next w.asks in
      let is : o ≡ here = stays_there p t n o here still goes in
      let mine : call_at (look p t o) ≡ Some call = ap (λ (x : Thread). call_at (look p t x)) is ∙ calls in
      let told : call_at (look p t o) ≡ Some w.call =
      ap (λ (x : Thread). call_at (look p t x)) from ∙ ap call_at w.asks ∙ call_back w.call in
      let same : w.call ≡ call = one_call w.call call (sym told ∙ mine) in
      let there : IsPhase k.buckets (k.phase t) call = subst (IsPhase k.buckets (k.phase t)) same w.there in
      let named = held_first k.buckets b (k.phase t) call there takes in
      let mine' = fit.right.all b t
      (ap (λ (c : Option FutexCall). names (held_at k.buckets (k.phase t) c) b)
      (called_there p t (thread_of k.concrete t) o call stands mine) ∙ named) in
      absurd (other (some_is u t (sym holds ∙ mine')))
]

-- it wants it still behind another's entry
pub wants_stay : (p : Program) (k k' : PieceConcrete) (t u b : ℕ) → IsFit p k → Apart p k k' t → u ≢ t
    → WantsBucket p k u b → WantsBucket p k' u b
wants_stay p k k' t u b fit a other w = record {
  count = w.count;
  origin = w.origin;
  here = w.here;
  moves = moves_stay p k k' t u a other w.moves;
  stands = a.beside.stay u w.origin other w.stands;
  goes = w.goes;
  turn = w.turn;
  whole = w.whole;
  asks = record {
    call = w.asks.call;
    calls = w.asks.calls;
    first = a.phases u other ∙ w.asks.first;
    takes = ap (λ (n : ℕ). takes_at n First w.asks.call) a.buckets ∙ w.asks.takes;
  };
  lies = ap (λ (n : ℕ). lies_in n w.asks.call) (a.fit.well.sized ∙ sym fit.well.sized) ∙ w.lies;
}

pub wants_behind : (p : Program) (k k' : PieceConcrete) (t u b : ℕ) → IsFit p k → HasEntered p k t k' → u ≢ t
    → WantsBucket p k u b → WantsBucket p k' u b
wants_behind p k k' t u b fit entered other w =
    wants_stay p k k' entered.0.thread u b fit (entered_apart p k k' entered.0 fit entered.2)
    (λ is. other (is ∙ entered.1)) w

-- an entry that was made in its place
pub entered_so : (p q q' : Program) (k k' new : PieceConcrete) (t : ℕ) (taken : Taken) (event : Event) → q ≡ p → q' ≡ q
    → k' ≡ k → EntersOwn q' k' (taken_entry t taken event) new → HasEntered p k t new
entered_so p q q' k k' new t taken event is same there enters = (
  taken_entry t taken event,
  refl,
  subst (λ (x : Program). EntersOwn x k (taken_entry t taken event) new) (same ∙ is)
      (subst (λ (x : PieceConcrete). EntersOwn q' x (taken_entry t taken event) new) there enters),
)

-- what holds of a value holds of an outcome behind which it stands
pub and_ok : {A B E : Type 0} → (P : B → Type 0) (r : Result A E) (b : B) (out : Result B E) → out ≡ result_and r (Ok b)
    → P b → IfOk out P
and_ok P (Ok x) b out is h = subst (λ o. IfOk o P) (sym is) h
and_ok P (Err e) b out is h = subst (λ o. IfOk o P) (sym is) tt

-- what is seen of a thread that another's bucket is in the way of
pub asks_first : (p : Program) (k : PieceConcrete) (t b u n : ℕ) (request : Told) (call : FutexCall) (o here : Thread)
    → IsFit p k → thread_of k.concrete t ≡ Some o → local_after p t n o ≡ Some here
    → next.Shared request ≡ next_step_of (look p t here) → Some call ≡ call_of (asked_of request)
    → Some b ≡ takes_at k.buckets First call → Some u ≡ k.holder b → u ≢ t → AsksFirst p k t b here
asks_first p k t b u n request call o here fit stands goes told is takes holds other =
    let calls : call_at (look p t here) ≡ Some call = told_is (look p t here) request told ∙ sym is in
    record {
      call = call;
      calls = calls;
      first = first_so p k t b u n o here call fit stands goes calls (sym takes) (sym holds) other;
      takes = sym takes;
    }

first_is : (a b : ℕ) → (let x : Obstacle = obstacle.First a in x) ≡ (let y : Obstacle = obstacle.First b in y) → a ≡ b
first_is a b h = cc

-- the same, as the code sees it
pub seen_first : (m : MachineView) (v : View) (t a b u : ℕ) (told : NextStep) (request : Told) (call : FutexCall) (here : Thread)
    → v ≡ m.view → IsFit m.view.program (parts m) → (let x : Obstacle = obstacle.First a in x) ≡ (let y : Obstacle = obstacle.First b in y)
    → GoesTo m.view t here → told ≡ next_step_of (look m.view.program t here) → told ≡ next.Shared request
    → Some call ≡ call_of (asked_of request) → Some a ≡ takes_at (bucket_count v.sleepers) First call
    → Some u ≡ holder_of v.sleepers a → u ≢ t → AsksFirst m.view.program (parts m) t b here
seen_first m v t a b u told request call here shows fit same goes is asks called takes holds other =
    subst (λ (x : ℕ). AsksFirst m.view.program (parts m) t x here) (first_is a b same)
    (asks_first m.view.program (parts m) t a u goes.count request call goes.origin here fit goes.stands goes.goes
    (sym asks ∙ is) called (takes ∙ ap (λ (w : View). takes_at (bucket_count w.sleepers) First call) shows)
    (holds ∙ ap (λ (w : View). holder_of w.sleepers a) shows) other)
