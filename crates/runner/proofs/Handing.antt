-- What comes of a piece.
use Rattle.std.proofs.Common.{◌≡◌, ℕ, ◌-◌, ◌+◌, ◌<◌, ◌≤◌, Bool, true, false, not, List, Option, Some, None, Result, Ok}
use Rattle.std.proofs.Common.{Err, is_some, length, refl, ap, sym, ◌∙◌, arith, length-set}
use Rattle.std.specs.Prelude.{if◌then◌else◌, IsOk}
use mir.Val.{bool_byte}
use Rattle.isa.specs.Programs.{Program}
use Rattle.robustexit.specs.ExitRules.{exit_of}
use Rattle.locals.specs.Threads.{Thread}
use Rattle.locals.specs.Accesses.{Accessing, accessing}
use Rattle.locals.specs.Looks.{Look, Goes, Asks, Leaves, Breaks, Rests, look}
use Rattle.locals.specs.Steps.{local_step, local_after, local_next}
use Rattle.machine.specs.declared.event.Event.{Event}
use Rattle.machine.specs.declared.event.EventName.TheVariants as name
use Rattle.machine.specs.declared.event.StepFault.{StepFault}
use Rattle.machine.specs.States.{ConcreteState, thread_of}
use Rattle.machine.specs.Runs.{has_ended}
use Rattle.machine.specs.ConcreteServing.{plain}
use Rattle.machine.specs.ConcreteSteps.{thread_step, on_machine, fault_of, step_of, step_awake}
use Rattle.machine.specs.ConcreteSteps.{step_thread, put_thread, can_move, thread_can_move}
use Rattle.machine.specs.Views.{View, concrete}
use Rattle.machine.proofs.Placing.{thread_at-put}
use Rattle.piece_machine.specs.PieceConcrete.{PieceConcrete, Outcome, look_step, awake_step, whole_at}
use Rattle.piece_machine.specs.PieceConcrete.{thread_step as piece_at_thread, piece_of, with_local, piece_fault_at}
use Rattle.piece_machine.specs.PieceViews.{GoesTo}
use Rattle.runner.specs.declared.fault.RunFault.TheVariants.{Limit}
use Rattle.runner.specs.Views.{PieceView, LogState, SharedView, log_state}
use Rattle.runner.specs.Logs.{event_cost, cost}
use Rattle.runner.specs.Entries.{entry_end, entry_end_by, BringsNoAccess, Stands, IsFine, RefusesEntry}
use Rattle.runner.specs.Rounds.{step_cost}
use Rattle.runner.proofs.Growing.{inside}

-- a thread that can move was made, is awake, and has not ended
pub record IsUp (k : ConcreteState) (t : ℕ) : Type 0 where
  pub thread : Thread
  pub stands : thread_of k t ≡ Some thread
  pub awake : k.common.asleep t ≡ None
  pub lives : has_ended (Some thread) ≡ false

up_by : (k : ConcreteState) (t : ℕ) (place : Option ℕ) (x : Option Thread) (ended : Bool)
    → k.common.asleep t ≡ place → thread_of k t ≡ x → has_ended x ≡ ended → thread_can_move place x ≡ true → IsUp k t
up_by k t place None ended is stands over moves = absurd cc
up_by k t (Some a) (Some x) ended is stands over moves = absurd cc
up_by k t None (Some x) true is stands over moves =
    let no : not (has_ended (Some x)) ≡ false = ap not over in
    let yes : not (has_ended (Some x)) ≡ true = moves in
    absurd (cc (sym no ∙ yes))
up_by k t None (Some x) false is stands over moves = record { thread = x; stands = stands; awake = is; lives = over }

pub up : (k : ConcreteState) (t : ℕ) → can_move k t ≡ true → IsUp k t
up k t moves = up_by k t (k.common.asleep t) (thread_of k t) (has_ended (thread_of k t)) refl refl refl moves

-- the step of a thread that is awake and was put somewhere
pub step_there : (p : Program) (k : ConcreteState) (t : ℕ) (o here : Thread) → k.common.asleep t ≡ None
    → thread_of k t ≡ Some o
    → step_of p (put_thread k t here) t ≡ on_machine (put_thread k t here) t
    (thread_step (exit_of p.version) (length k.threads) t k.common (look p t here))
step_there p k t o here awake stands =
    let there = put_thread k t here in
    ap (step_thread p there t) (thread_at-put k.threads t o here stands)
    ∙ ap (step_awake p there t here) awake
    ∙ ap (λ made. on_machine there t (thread_step (exit_of p.version) made t k.common (look p t here)))
    (length-set k.threads (t - 1) here)

-- the same of a machine with pieces: its step is that of what the thread looks like there
pub piece_there : (p : Program) (k : PieceConcrete) (t : ℕ) (o here : Thread) → k.concrete.common.asleep t ≡ None
    → thread_of k.concrete t ≡ Some o
    → piece_of p (with_local k t here) t ≡ look_step p (with_local k t here) t (look p t here)
piece_there p k t o here awake stands =
    let there = with_local k t here in
    ap (piece_at_thread p there t) (thread_at-put k.concrete.threads t o here stands)
    ∙ ap (awake_step p there t here) awake

-- where a local step leads
look_goes : (l : Look) (z : Thread) → local_next l ≡ Some z → l ≡ Goes z
look_goes (Goes x) z h = let e : x ≡ z = cc in ap (λ y. Goes y) e
look_goes (Asks request go) z h = absurd cc
look_goes (Leaves phase) z h = absurd cc
look_goes Breaks z h = absurd cc
look_goes Rests z h = absurd cc

-- a local step is one of the machine
pub piece_goes : (p : Program) (k : PieceConcrete) (t : ℕ) (o here next : Thread) → k.concrete.common.asleep t ≡ None
    → thread_of k.concrete t ≡ Some o → local_step p t here ≡ Some next
    → piece_of p (with_local k t here) t ≡ Ok (with_local (with_local k t here) t next, plain name.Local 0)
piece_goes p k t o here next awake stands goes =
    let there = with_local k t here in
    let looks = look_goes (look p t here) next goes in
    piece_there p k t o here awake stands
    ∙ ap (look_step p there t) looks
    ∙ ap (whole_at there) (step_there p k.concrete t o here awake stands
    ∙ ap (λ l. on_machine there.concrete t (thread_step (exit_of p.version) (length k.concrete.threads) t k.concrete.common l)) looks)

-- before a local step it comes in as a turn
turn_by : (there : PieceConcrete) (r : Outcome) (o : Option Thread) → true ≡ is_some o
    → entry_end_by there r o ≡ Ok (there, None)
turn_by there r (Some x) h = refl
turn_by there r None h = absurd cc

pub turn_end : (p : Program) (k : PieceConcrete) (t : ℕ) (here : Thread) → true ≡ is_some (local_step p t here)
    → entry_end p k t here ≡ Ok (with_local k t here, None)
turn_end p k t here h = turn_by (with_local k t here) (piece_of p (with_local k t here) t) (local_step p t here) h

-- and else with its step
step_by : (there : PieceConcrete) (r : Outcome) (k : PieceConcrete) (e : Event)
    (o : Option Thread) → false ≡ is_some o → r ≡ Ok (k, e) → entry_end_by there r o ≡ Ok (k, Some e)
step_by there r k e (Some x) h is = absurd cc
step_by there r k e None h is = ap (λ y. entry_end_by there y None) is

pub step_end : (p : Program) (k : PieceConcrete) (t : ℕ) (here : Thread) (k' : PieceConcrete) (e : Event)
    → false ≡ is_some (local_step p t here) → piece_of p (with_local k t here) t ≡ Ok (k', e)
    → entry_end p k t here ≡ Ok (k', Some e)
step_end p k t here k' e h is =
    step_by (with_local k t here) (piece_of p (with_local k t here) t) k' e (local_step p t here) h is

-- what an entry costs, by what comes behind its local steps
pub costs_so : (there new : PieceConcrete) (r : Outcome) (ls : Option Thread)
    (event : Option Event) → entry_end_by there r ls ≡ Ok (new, event) → event_cost event ≡ step_cost ls
costs_so there new r (Some x) event h =
    ap (λ (q : PieceConcrete × Option Event). event_cost q.1) (sym (inside _ _ h))
costs_so there new (Ok x) None event h =
    ap (λ (q : PieceConcrete × Option Event). event_cost q.1) (sym (inside _ _ h))
costs_so there new (Err f) None event h = absurd cc

-- an entry is refused just where its shared step is
pub refused_by : (there : PieceConcrete) (r : Outcome) (ls : Option Thread)
    (f : StepFault)
    → (let R : Type 0 = Result (PieceConcrete × Option Event) StepFault in
    (let a : R = entry_end_by there r ls in a) ≡ (let b : R = Err f in b)) → (ls ≡ None) × (r ≡ Err f)
refused_by there r (Some x) f h = absurd cc
refused_by there (Ok x) None f h = absurd cc
refused_by there (Err g) None f h = let e : g ≡ f = cc in (refl, ap Err e)

pub refused_end : (there : PieceConcrete) (r : Outcome) (ls : Option Thread)
    (f : StepFault) → ls ≡ None → r ≡ Err f → entry_end_by there r ls ≡ Err f
refused_end there r ls f none fails = λ i. entry_end_by there (fails i) (none i)

fault_is : (r : Outcome) (f : StepFault) → Some f ≡ fault_of r → r ≡ Err f
fault_is (Ok q) f is = absurd cc
fault_is (Err g) f is = let e : g ≡ f = cc in ap Err e

done_fault : (r : Outcome) (q : PieceConcrete × Event) (f : StepFault) → r ≡ Ok q → Some f ≡ fault_of r → ⊥
done_fault (Ok x) q f done is = cc
done_fault (Err g) q f done is = cc

-- where a fault stands, the piece is refused with it
pub refused_at : (p q : Program) (k : PieceConcrete) (t : ℕ) (o here : Thread) (f : StepFault) → q ≡ p
    → k.concrete.common.asleep t ≡ None → thread_of k.concrete t ≡ Some o → Some f ≡ piece_fault_at q k t here
    → entry_end p k t here ≡ Err f
refused_at p q k t o here f same awake stands is =
    let there = with_local k t here in
    ap (λ x. entry_end x k t here) (sym same) ∙ by (local_step q t here) refl
  where
    by : (ls : Option Thread) → local_step q t here ≡ ls
        → entry_end_by (with_local k t here) (piece_of q (with_local k t here) t) ls ≡ Err f
    by (Some next) goes = absurd (done_fault (piece_of q (with_local k t here) t) _ f
        (piece_goes q k t o here next awake stands goes) is)
    by None none = refused_end (with_local k t here) (piece_of q (with_local k t here) t) None f refl
        (fault_is (piece_of q (with_local k t here) t) f is)

fine_by : (there : PieceConcrete) (r : Outcome) (ls : Option Thread) → None ≡ fault_of r
    → (concrete : PieceConcrete) × (event : Option Event)
    × (entry_end_by there r ls ≡ Ok (concrete, event))
    × (event_cost event ≡ (if not (is_some ls) then 1 else 0))
fine_by there r (Some x) f = (there, None, refl, refl)
fine_by there (Ok s) None f = (s.0, Some s.1, refl, refl)
fine_by there (Err fault) None f = absurd cc

-- where no fault stands, the piece comes in
pub comes_in : (p : Program) (k : PieceConcrete) (t : ℕ) (here : Thread) → None ≡ piece_fault_at p k t here
    → (concrete : PieceConcrete) × (event : Option Event) × (entry_end p k t here ≡ Ok (concrete, event))
    × (event_cost event ≡ (if not (is_some (local_step p t here)) then 1 else 0))
comes_in p k t here none =
    fine_by (with_local k t here) (piece_of p (with_local k t here) t) (local_step p t here) none

by_test : (b : Bool) → (if not b then 1 else 0) ≡ bool_byte (not b)
by_test true = refl
by_test false = refl

-- the same of a piece, with what it costs
comes : (p q : Program) (h : LogState) (a : PieceView) (t : ℕ) (b : Bool) → q ≡ p → Stands h t a
    → can_move h.concrete.concrete t ≡ true → None ≡ piece_fault_at q h.concrete t a.here → b ≡ is_some (local_step q t a.here)
    → (concrete : PieceConcrete) × (event : Option Event) × (entry_end p h.concrete t a.here ≡ Ok (concrete, event))
    × (event_cost event ≡ bool_byte (not b))
comes p q h a t b same stands moves none is_b =
    let r = comes_in q h.concrete t a.here none in (
      r.0,
      r.1,
      ap (λ x. entry_end x h.concrete t a.here) (sym same) ∙ r.2,
      r.3
          ∙ by_test (is_some (local_step q t a.here)) ∙ ap (λ (x : Bool). bool_byte (not x)) (sym is_b),
    )

pub past_limit : (p q : Program) (limit : ℕ) (h : LogState) (a : PieceView) (t left limited extra : ℕ) (b : Bool)
    → q ≡ p → Stands h t a → can_move h.concrete.concrete t ≡ true → None ≡ piece_fault_at q h.concrete t a.here
    → b ≡ is_some (local_step q t a.here) → extra ≡ bool_byte (not b) → left + cost h.log ≡ limited → limited ≡ limit
    → left < a.count + extra → RefusesEntry p limit h t a Limit
past_limit p q limit h a t left limited extra b same stands moves none is_b is_extra is_left is_limit past =
    let r = comes p q h a t b same stands moves none is_b in
    (stands, moves, r.0, r.1, r.2, omega (arith, r.3, is_extra))

pub in_limit : (p q : Program) (limit : ℕ) (h : LogState) (a : PieceView) (t left limited extra : ℕ) (b : Bool)
    → q ≡ p → Stands h t a → can_move h.concrete.concrete t ≡ true → None ≡ piece_fault_at q h.concrete t a.here
    → b ≡ is_some (local_step q t a.here) → extra ≡ bool_byte (not b) → left + cost h.log ≡ limited → limited ≡ limit
    → a.count + extra ≤ left → IsFine p limit h t a
in_limit p q limit h a t left limited extra b same stands moves none is_b is_extra is_left is_limit fits =
    let r = comes p q h a t b same stands moves none is_b in
    record {
      stands = stands;
      moves = moves;
      concrete = r.0;
      event = r.1;
      gives = r.2;
      within =
          omega (arith, r.3, is_extra);
    }

-- a piece of a thread that stands where it began
pub goes_to : (p : Program) (v : View) (t : ℕ) (a : PieceView) → v.program ≡ p
    → (a.thread ≡ t) × (thread_of (concrete v) t ≡ Some a.origin) → local_after p a.thread a.count a.origin ≡ Some a.here
    → GoesTo v t a.here
goes_to p v t a same stands goes = record {
  origin = a.origin;
  count = a.count;
  stands = stands.1;
  goes = (λ i. local_after (same i) (sym stands.0 i) a.count a.origin) ∙ goes;
}

-- what a refused piece is refused with
pub refused_with : (p q : Program) (h : LogState) (t : ℕ) (a : PieceView) (f : StepFault) → q ≡ p → Stands h t a
    → can_move h.concrete.concrete t ≡ true → Some f ≡ piece_fault_at q h.concrete t a.here
    → entry_end p h.concrete t a.here ≡ Err f
refused_with p q h t a f same stands moves is =
    refused_at p q h.concrete t a.origin a.here f same (up h.concrete.concrete t moves).awake stands.1 is

no_step : (o : Option Thread) → false ≡ is_some o → o ≡ None
no_step None h = refl
no_step (Some x) h = absurd cc

-- a piece that comes in isn't refused
ok_or_not : (r : Result (PieceConcrete × Option Event) StepFault) (f : StepFault) → IsOk r → r ≡ Err f → ⊥
ok_or_not (Ok q) f fine fails = cc
ok_or_not (Err g) f fine fails = cc

pub not_refused : (p : Program) (k : PieceConcrete) (t : ℕ) (here : Thread) (f : StepFault)
    → IsOk (entry_end p k t here) → false ≡ is_some (local_step p t here) → piece_of p (with_local k t here) t ≡ Err f
    → ⊥
not_refused p k t here f fine shared fails =
    ok_or_not (entry_end p k t here) f fine
    (refused_end (with_local k t here) (piece_of p (with_local k t here) t) (local_step p t here) f
    (no_step (local_step p t here) shared) fails)

-- who stands before an access takes no local step, and so its entry has one step more than its piece counts
access_shared : (l : Look) (ws : List ℕ) (a : Accessing) → accessing l ws ≡ Some a → local_next l ≡ None
access_shared (Asks request go) ws a h = refl
access_shared (Goes x) ws a h = absurd cc
access_shared (Leaves phase) ws a h = refl
access_shared Breaks ws a h = refl
access_shared Rests ws a h = refl

access_costs : (p : Program) (k k' : PieceConcrete) (t : ℕ) (here : Thread) (ws : List ℕ) (a : Accessing)
    (event : Option Event) → accessing (look p t here) ws ≡ Some a → entry_end p k t here ≡ Ok (k', event)
    → event_cost event ≡ 1
access_costs p k k' t here ws a event h gives =
    costs_so (with_local k t here) k' (piece_of p (with_local k t here) t) (local_step p t here) event gives
    ∙ ap step_cost (access_shared (look p t here) ws a h)

-- a piece that doesn't come in with an access can't come in, or has none
brings_by : (p : Program) (limit : ℕ) (s : SharedView) (t : ℕ) (a : PieceView) (o : Option Accessing)
    → accessing (look p t a.here) s.machine.view.words ≡ o
    → (is_some o ≡ true → Stands (log_state s) t a → can_move (log_state s).concrete.concrete t ≡ true
    → cost s.log + (a.count + 1) ≤ limit → ⊥)
    → BringsNoAccess p limit s t a
brings_by p limit s t a None is none = λ fine. is
brings_by p limit s t a (Some x) is none = λ fine.
    let one = access_costs p (log_state s).concrete fine.concrete t a.here s.machine.view.words x fine.event is fine.gives in
    absurd (none refl fine.stands fine.moves (omega (arith, one, fine.within)))

pub brings_none : (p : Program) (limit : ℕ) (s : SharedView) (t : ℕ) (a : PieceView)
    → (is_some (accessing (look p t a.here) s.machine.view.words) ≡ true → Stands (log_state s) t a
    → can_move (log_state s).concrete.concrete t ≡ true → cost s.log + (a.count + 1) ≤ limit → ⊥)
    → BringsNoAccess p limit s t a
brings_none p limit s t a none = brings_by p limit s t a (accessing (look p t a.here) s.machine.view.words) refl none
