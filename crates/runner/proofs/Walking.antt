-- What comes of a thread that took the local steps of its turn, on the machine or ahead of it.
use Rattle.std.proofs.Common.{◌≡◌, ◌≢◌, ◌≤◌, ◌<◌, ℕ, true, Option, Some, None, Ok, Err, Result}
use Rattle.std.proofs.Common.{is_some, length, slice_set, false, ◌-◌, IfErr, refl, ap, sym, ◌∙◌, subst, arith}
use Rattle.std.specs.Prelude.{IfNone, IfSome, MatchOption, OnOk}
use Rattle.std.specs.Result.{result_and}
use Rattle.isa.specs.Programs.{Program}
use Rattle.locals.specs.declared.request.NextStep.{NextStep}
use Rattle.locals.specs.Looks.{Request, AskLoad, AskStore, AskSwap, AskCompareSwap, AskOr, AskAdd, AskFork, AskPrint}
use Rattle.locals.specs.Looks.{AskWait, AskWake, AskRequeue, AskReturn, AskReturnValue, AskFault, Look, Goes, Asks}
use Rattle.locals.specs.Looks.{Leaves, Breaks, Rests, look}
use Rattle.locals.specs.declared.request.NextStep.TheVariants as kind
use Rattle.locals.specs.Requests.{next_step_of, request_step}
use Rattle.locals.specs.Steps.{local_next, local_step}
use Rattle.locals.specs.Threads.{Thread}
use Rattle.machine.specs.ConcreteSteps.{can_move, fault_of}
use Rattle.machine.specs.declared.event.Event.{Event}
use Rattle.machine.specs.declared.event.StepFault.{StepFault}
use Rattle.machine.specs.declared.event.StepFault.TheVariants.{Broken, CannotMove}
use Rattle.locals.specs.declared.access.Access.{Access}
use Rattle.machine.specs.Accessing.{HasNoAccess, told_access}
use Rattle.machine.specs.LocalRuns.{RunsOn}
use Rattle.machine.specs.States.{state_of, thread_of}
use Rattle.machine.specs.Views.{View, concrete}
use Rattle.machine.proofs.Placing.{thread_at-put}
use Rattle.piece_machine.specs.PieceConcrete.{PieceConcrete, piece_fault_at, piece_of, with_local}
use Rattle.piece_machine.specs.PieceViews.{PieceView as MachineView, DoneFrom, GoesTo, HasNoLocal, parts}
use Rattle.runner.specs.Entries.{BreaksAfter, entry_end, entry_end_by}
use Rattle.runner.specs.Logs.{EntersOwn}
use Rattle.runner.specs.Reports.{IsHeldUp, IsNextEntry}
use Rattle.runner.specs.Walks.{FailsAfter, Turns, Walked}
use Rattle.runner.specs.declared.fault.RunFault.{RunFault}
use Rattle.runner.specs.declared.fault.RunFault.TheVariants as fault
use Rattle.runner.proofs.Growing.{entry}
use Rattle.runner.proofs.Handing.{refused_at, refused_by, refused_end, up}
use Rattle.runner.proofs.Once.{still_made}
use Rattle.runner.proofs.Unrolling.{put_back}

-- a machine whose thread went on by local steps
pub led_to : (old mid : MachineView) (t : ℕ) (here : Thread)
    → mid.view ≡ record old.view { threads = slice_set old.view.threads (t - 1) here } → mid.phases ≡ old.phases
    → parts mid ≡ with_local (parts old) t here
led_to old mid t here after phases =
    λ i. parts (record { view = after i; phases = phases i })

-- it stands there, awake
pub walked_there : (p : Program) (k mid : PieceConcrete) (t n : ℕ) (w : Walked p k t n mid)
    → thread_of mid.concrete t ≡ Some w.here
walked_there p k mid t n w =
    ap (λ (m : PieceConcrete). thread_of m.concrete t) w.there
    ∙ thread_at-put k.concrete.threads t w.origin w.here w.stands

-- its entry has those steps alone
pub walk_enters : (p : Program) (k mid new : PieceConcrete) (t n : ℕ) → Walked p k t n mid → new ≡ mid
    → EntersOwn p k (entry t n None) new
walk_enters p k mid new t n w same = record {
  origin = w.origin;
  here = w.here;
  stands = w.stands;
  moves = w.moves;
  goes = w.turns.goes;
  ends = same ∙ w.there;
}

-- or a shared step behind them
pub no_step : (o : Option Thread) → is_some o ≡ false → o ≡ None
no_step None h = refl
no_step (Some x) h = absurd cc

some_step : (o : Option Thread) → is_some o ≡ true → o ≡ None → ⊥
some_step o some none = absurd (cc (sym some ∙ ap is_some none))

pub no_local : (p : Program) (t : ℕ) (x : Thread) → is_some (local_step p t x) ≡ true → local_step p t x ≡ None → ⊥
no_local p t x some none = some_step (local_step p t x) some none

pub step_enters : (p : Program) (k mid new : PieceConcrete) (t n : ℕ) (e : Event) (w : Walked p k t n mid)
    → is_some (local_step p t w.here) ≡ false → piece_of p mid t ≡ Ok (new, e) → EntersOwn p k (entry t n (Some e)) new
step_enters p k mid new t n e w shared steps = record {
  origin = w.origin;
  here = w.here;
  stands = w.stands;
  moves = w.moves;
  goes = w.turns.goes;
  ends = (
    no_step (local_step p t w.here) shared,
    ap (λ (m : PieceConcrete). piece_of p m t) (sym w.there) ∙ steps,
  );
}

-- either is the next one of the thread
local_end : (k : PieceConcrete) (r : Result (PieceConcrete × Event) StepFault) (o : Option Thread) → is_some o ≡ true
    → entry_end_by k r o ≡ Ok (k, None)
local_end k r None some = absurd cc
local_end k r (Some x) some = refl

shared_end : (k new : PieceConcrete) (e : Event) (r : Result (PieceConcrete × Event) StepFault) (o : Option Thread)
    → o ≡ None → r ≡ Ok (new, e) → entry_end_by k r o ≡ Ok (new, Some e)
shared_end k new e r o shared gives = (λ i. entry_end_by k (gives i) (shared i))

pub walk_next : (p : Program) (k mid : PieceConcrete) (t n : ℕ) (w : Walked p k t n mid)
    → is_some (local_step p t w.here) ≡ true → IsNextEntry p k t n None
walk_next p k mid t n w some = record {
  origin = w.origin;
  here = w.here;
  concrete = with_local k t w.here;
  stands = w.stands;
  goes = w.turns.goes;
  turn = w.turns.turn;
  whole = w.turns.whole;
  gives = local_end (with_local k t w.here) (piece_of p (with_local k t w.here) t) (local_step p t w.here) some;
}

pub own_next : (p : Program) (k new : PieceConcrete) (t n : ℕ) (e : Event) → EntersOwn p k (entry t n (Some e)) new
    → n ≤ 256 → IsNextEntry p k t n (Some e)
own_next p k new t n e own turn = record {
  origin = own.origin;
  here = own.here;
  concrete = new;
  stands = own.stands;
  goes = own.goes;
  turn = turn;
  whole = λ few. own.ends.0;
  gives = shared_end (with_local k t own.here) new e (piece_of p (with_local k t own.here) t) (local_step p t own.here)
      own.ends.0 own.ends.1;
}

pub step_next : (p : Program) (k mid new : PieceConcrete) (t n : ℕ) (e : Event) (w : Walked p k t n mid)
    → is_some (local_step p t w.here) ≡ false → piece_of p mid t ≡ Ok (new, e) → IsNextEntry p k t n (Some e)
step_next p k mid new t n e w shared steps =
    own_next p k new t n e (step_enters p k mid new t n e w shared steps) w.turns.turn

-- where that step is refused and doesn't wait for a held bucket, it may not be
pub walk_breaks : (p : Program) (k mid : PieceConcrete) (t n : ℕ) (f : StepFault) (w : Walked p k t n mid)
    → is_some (local_step p t w.here) ≡ false → piece_of p mid t ≡ Err f
    → (entry_end p k t w.here ≡ Err CannotMove → ⊥) → BreaksAfter p k t n
walk_breaks p k mid t n f w shared fails free = by f ends
  where
    ends : entry_end p k t w.here ≡ Err f
    ends = refused_end (with_local k t w.here) (piece_of p (with_local k t w.here) t) (local_step p t w.here) f
        (no_step (local_step p t w.here) shared)
        (ap (λ (m : PieceConcrete). piece_of p m t) (sym w.there) ∙ fails)

    by : (g : StepFault) → entry_end p k t w.here ≡ Err g → BreaksAfter p k t n
    by Broken breaks = record { origin = w.origin; here = w.here; stands = w.stands; goes = w.turns.goes; breaks = breaks }
    by CannotMove waits = absurd (free waits)

-- a thread that stands before a shared step has taken them all
abbrev pub walked_none : (p : Program) (k : PieceConcrete) (t : ℕ) (x : Thread) → thread_of k.concrete t ≡ Some x
    → can_move k.concrete t ≡ true → is_some (local_step p t x) ≡ false → Walked p k t 0 k
walked_none p k t x stands moves shared = record {
  origin = x;
  here = x;
  stands = stands;
  moves = moves;
  turns = record { goes = refl; turn = omega arith; whole = λ less. no_step (local_step p t x) shared };
  there = sym (put_back k t x stands);
}

-- the same by another name of the program
abbrev pub walked_as : (p q : Program) (k mid : PieceConcrete) (t n : ℕ) → q ≡ p → Walked p k t n mid → Walked q k t n mid
walked_as p q k mid t n same w = record {
  origin = w.origin;
  here = w.here;
  stands = w.stands;
  moves = w.moves;
  turns = subst (λ (x : Program). Turns x t n w.origin w.here) (sym same) w.turns;
  there = w.there;
}

-- and of where the machine is
abbrev pub walked_at : (p q : Program) (k mid mid' : PieceConcrete) (t n : ℕ) → q ≡ p → mid' ≡ mid → Walked p k t n mid
    → Walked q k t n mid'
walked_at p q k mid mid' t n same there w = record {
  origin = w.origin;
  here = w.here;
  stands = w.stands;
  moves = w.moves;
  turns = subst (λ (x : Program). Turns x t n w.origin w.here) (sym same) w.turns;
  there = there ∙ w.there;
}

-- a step that may not be, behind them
pub fails_so : (p q : Program) (k : PieceConcrete) (t n m : ℕ) (f : RunFault) → q ≡ p → n ≡ m
    → ((f ≡ fault.Broken) × BreaksAfter q k t n) → FailsAfter p k t m f
fails_so p q k t n m f same count b =
    subst (λ (g : RunFault). FailsAfter p k t m g) (sym b.0)
    (subst (λ (x : Program). BreaksAfter x k t m) same (subst (λ (i : ℕ). BreaksAfter q k t i) count b.1))

-- a thread that went on in its place
abbrev pub walked_on : (old mid : MachineView) (t n : ℕ) → can_move (concrete old.view) t ≡ true
    → RunsOn old.view t 256 n mid.view → mid.phases ≡ old.phases → Walked old.view.program (parts old) t n (parts mid)
walked_on old mid t n moves r phases = record {
  origin = r.origin;
  here = r.here;
  stands = r.stands;
  moves = moves;
  turns = record { goes = r.goes; turn = r.within; whole = r.whole };
  there = led_to old mid t r.here r.after phases;
}

-- and a try of an access changed nothing
abbrev pub walked_still : (old mid new : MachineView) (t n : ℕ) → can_move (concrete old.view) t ≡ true
    → RunsOn old.view t 256 n mid.view → mid.phases ≡ old.phases → new ≡ mid
    → Walked old.view.program (parts old) t n (parts new)
walked_still old mid new t n moves r phases same = record {
  origin = r.origin;
  here = r.here;
  stands = r.stands;
  moves = moves;
  turns = record { goes = r.goes; turn = r.within; whole = r.whole };
  there = ap (λ (m : MachineView). parts m) same ∙ led_to old mid t r.here r.after phases;
}

-- where the step that it stands before waits for a bucket, it was held up
pub walk_waits : (p : Program) (k mid : PieceConcrete) (t n : ℕ) (w : Walked p k t n mid)
    → entry_end p k t w.here ≡ Err CannotMove → IsHeldUp p k t
walk_waits p k mid t n w waits = record {
  count = n;
  origin = w.origin;
  here = w.here;
  moves = w.moves;
  stands = w.stands;
  goes = w.turns.goes;
  turn = w.turns.turn;
  whole = w.turns.whole;
  waits = waits;
}

-- where a held bucket is in the way of the step that its local steps lead to, it is held up
pub held_ahead : (p : Program) (k : PieceConcrete) (t n : ℕ) (origin here : Thread)
    → thread_of k.concrete t ≡ Some origin → can_move k.concrete t ≡ true → Turns p t n origin here
    → piece_fault_at p k t here ≡ Some CannotMove → IsHeldUp p k t
held_ahead p k t n origin here stands moves turns waits = record {
  count = n;
  origin = origin;
  here = here;
  moves = moves;
  stands = stands;
  goes = turns.goes;
  turn = turns.turn;
  whole = turns.whole;
  waits = refused_at p p k t origin here CannotMove refl (up k.concrete t moves).awake stands (sym waits);
}

-- where no bucket is in its way there, its entry doesn't wait for one
pub free_ahead : (p : Program) (k : PieceConcrete) (t : ℕ) (here : Thread)
    → (piece_fault_at p k t here ≡ Some CannotMove → ⊥) → entry_end p k t here ≡ Err CannotMove → ⊥
free_ahead p k t here free waits =
    let there = with_local k t here in
    let b = refused_by there (piece_of p there t) (local_step p t here) CannotMove waits in
    free (ap fault_of b.1)

-- a thread that stands before a shared step has none to take
pub turns_none : (p : Program) (t : ℕ) (x : Thread) → is_some (local_step p t x) ≡ false → Turns p t 0 x x
turns_none p t x shared =
    record { goes = refl; turn = omega arith; whole = λ less. no_step (local_step p t x) shared }

-- a thread that was put where its local steps led
abbrev pub IsPut : MachineView → ℕ → Thread → MachineView → Type 0
IsPut old t here new =
    new ≡ record old { view = record old.view { threads = slice_set old.view.threads (t - 1) here } }

pub put_made : (old new : MachineView) (t : ℕ) (origin here : Thread) → thread_of (concrete old.view) t ≡ Some origin
    → IsPut old t here new → (0 < t) × (t ≤ length new.view.threads)
put_made old new t origin here stands is =
    still_made old.view.threads new.view.threads t origin here stands (ap (λ (m : MachineView). m.view.threads) is)

pub put_awake : (old new : MachineView) (t : ℕ) (here : Thread) → can_move (concrete old.view) t ≡ true
    → IsPut old t here new → (state_of (concrete new.view)).asleep t ≡ None
put_awake old new t here moves is =
    ap (λ (m : MachineView). (state_of (concrete m.view)).asleep t) is ∙ (up (concrete old.view) t moves).awake

pub put_next : (old new : MachineView) (t : ℕ) (origin here x : Thread) (next : NextStep)
    → thread_of (concrete old.view) t ≡ Some origin → IsPut old t here new
    → next ≡ next_step_of (look old.view.program t here) → thread_of (concrete new.view) t ≡ Some x
    → next ≡ next_step_of (look new.view.program t x)
put_next old new t origin here x next stands is next_is at =
    let both : Some here ≡ Some x = sym (ap (λ (m : MachineView). thread_of (concrete m.view) t) is
    ∙ thread_at-put old.view.threads t origin here stands) ∙ at in
    let e : here ≡ x = cc in
    let same : new.view.program ≡ old.view.program = ap (λ (m : MachineView). m.view.program) is in
    next_is ∙ (λ i. next_step_of (look (sym same i) t (e i)))

-- what holds of a fault, and so something else does
pub if_err : {A E : Type 0} → (P Q : E → Type 0) (r : Result A E) → ((e : E) → P e → Q e) → IfErr r P → IfErr r Q
if_err P Q (Ok x) f h = h
if_err P Q (Err e) f h = f e h

-- an outcome behind which there is more to say
pub and_err : {A B E : Type 0} → (P : E → Type 0) (r : Result A E) (b : B) (out : Result B E) → out ≡ result_and r (Ok b)
    → IfErr r P → IfErr out P
and_err P (Ok x) b out is h = subst (λ o. IfErr o P) (sym is) tt
and_err P (Err e) b out is h = subst (λ o. IfErr o P) (sym is) h

-- a thread that went on in its place, and tried an access there
pub walk_accessed : (old mid new : MachineView) (t n : ℕ) (made : Option Access) → can_move (concrete old.view) t ≡ true
    → RunsOn old.view t 256 n mid.view → mid.phases ≡ old.phases
    → MatchOption made ((new ≡ mid) × HasNoAccess mid.view t)
    (λ told. (piece_of mid.view.program (parts mid) t ≡ Ok (parts new, told_access told)) × HasNoLocal mid.view t)
    → IfSome made (λ told. EntersOwn old.view.program (parts old) (entry t n (Some (told_access told))) (parts new))
walk_accessed old mid new t n None moves r phases h = tt
walk_accessed old mid new t n (Some told) moves r phases h =
    let same = ap (λ (w : View). w.program) r.after in
    let w = walked_as old.view.program mid.view.program (parts old) (parts mid) t n same
    (walked_on old mid t n moves r phases) in
    subst (λ (q : Program). EntersOwn q (parts old) (entry t n (Some (told_access told))) (parts new)) same
    (step_enters mid.view.program (parts old) (parts mid) (parts new) t n (told_access told) w
    (h.1 w.here (walked_there mid.view.program (parts old) (parts mid) t n w)) h.0)

pub walk_none : (old mid new : MachineView) (t n : ℕ) (made : Option Access) → can_move (concrete old.view) t ≡ true
    → RunsOn old.view t 256 n mid.view → mid.phases ≡ old.phases
    → MatchOption made ((new ≡ mid) × HasNoAccess mid.view t)
    (λ told. (piece_of mid.view.program (parts mid) t ≡ Ok (parts new, told_access told)) × HasNoLocal mid.view t)
    → IfNone made ((Walked old.view.program (parts old) t n (parts new)) × (new.view.room ≡ old.view.room))
walk_none old mid new t n None moves r phases h = (
  walked_still old mid new t n moves r phases h.0,
  ap (λ (m : MachineView). m.view.room) h.0 ∙ ap (λ (w : View). w.room) r.after,
)
walk_none old mid new t n (Some told) moves r phases h = tt

pub walk_moves : (mid new : MachineView) (t : ℕ) (made : Option Access) → can_move (concrete mid.view) t ≡ true
    → MatchOption made ((new ≡ mid) × HasNoAccess mid.view t)
    (λ told. (piece_of mid.view.program (parts mid) t ≡ Ok (parts new, told_access told)) × HasNoLocal mid.view t)
    → IfSome made (λ told. can_move (concrete new.view) t ≡ true) → can_move (concrete new.view) t ≡ true
walk_moves mid new t None moves h made = subst (λ (m : MachineView). can_move (concrete m.view) t ≡ true) (sym h.0) moves
walk_moves mid new t (Some told) moves h made = made

-- where the step that it stands before may not be
pub breaks_there : (p : Program) (k mid : PieceConcrete) (t n : ℕ) (w : Walked p k t n mid)
    → is_some (local_step p t w.here) ≡ false → piece_of p mid t ≡ Err Broken → BreaksAfter p k t n
breaks_there p k mid t n w shared fails = record {
  origin = w.origin;
  here = w.here;
  stands = w.stands;
  goes = w.turns.goes;
  breaks = refused_end (with_local k t w.here) (piece_of p (with_local k t w.here) t) (local_step p t w.here) Broken
      (no_step (local_step p t w.here) shared) (ap (λ (m : PieceConcrete). piece_of p m t) (sym w.there) ∙ fails);
}

-- or waits for a bucket
pub waits_there : (p : Program) (k mid : PieceConcrete) (t n : ℕ) (w : Walked p k t n mid)
    → is_some (local_step p t w.here) ≡ false → piece_of p mid t ≡ Err CannotMove → IsHeldUp p k t
waits_there p k mid t n w shared fails =
    walk_waits p k mid t n w (refused_end (with_local k t w.here) (piece_of p (with_local k t w.here) t)
    (local_step p t w.here) CannotMove (no_step (local_step p t w.here) shared)
    (ap (λ (m : PieceConcrete). piece_of p m t) (sym w.there) ∙ fails))

pub fault_here : (p : Program) (k : PieceConcrete) (t : ℕ) (x : Thread) → thread_of k.concrete t ≡ Some x
    → piece_of p k t ≡ Err CannotMove → piece_fault_at p k t x ≡ Some CannotMove
fault_here p k t x stands fails =
    ap (λ (q : PieceConcrete). fault_of (piece_of p q t)) (put_back k t x stands) ∙ ap fault_of fails

-- the step of a thread that is none of its own alone
pub is_shared : (p : Program) (t : ℕ) (x : Thread) (next : NextStep) → next ≡ next_step_of (look p t x)
    → next ≢ kind.Local → is_some (local_step p t x) ≡ false
is_shared p t x next is not = by (look p t x) is
  where
    by : (l : Look) → next ≡ next_step_of l → is_some (local_next l) ≡ false
    by (Goes y) h = absurd (not h)
    by (Asks request go) h = refl
    by (Leaves phase) h = refl
    by Breaks h = refl
    by Rests h = refl

-- a thread that went on ahead of the machine by the local steps of its turn
pub record Ahead (v : View) (t n : ℕ) (here : Thread) : Type 0 where
  pub origin : Thread
  pub stands : thread_of (concrete v) t ≡ Some origin
  pub turns : Turns v.program t n origin here

pub ahead_of : (v w : View) (t n : ℕ) (here : Thread) → w ≡ v → can_move (concrete v) t ≡ true
    → ((x : Thread) → thread_of (concrete w) t ≡ Some x → Turns w.program t n x here) → Ahead v t n here
ahead_of v w t n here shows moves turns =
    let u = up (concrete v) t moves in
    let all = subst (λ (z : View). (x : Thread) → thread_of (concrete z) t ≡ Some x → Turns z.program t n x here) shows
    turns in
    record { origin = u.thread; stands = u.stands; turns = all u.thread u.stands }

pub ahead_still : (old new : MachineView) (t n : ℕ) (here here' : Thread) → new ≡ old → here' ≡ here
    → Ahead old.view t n here → Ahead new.view t n here'
ahead_still old new t n here here' same there a =
    subst (λ (x : Thread). Ahead new.view t n x) (sym there)
    (subst (λ (m : MachineView). Ahead m.view t n here) (sym same) a)

pub moves_still : (old new : MachineView) (t : ℕ) → new ≡ old → can_move (concrete old.view) t ≡ true
    → can_move (concrete new.view) t ≡ true
moves_still old new t same moves = subst (λ (m : MachineView). can_move (concrete m.view) t ≡ true) (sym same) moves

pub goes_to : (v : View) (t n : ℕ) (here : Thread) → Ahead v t n here → GoesTo v t here
goes_to v t n here a = record { origin = a.origin; count = n; stands = a.stands; goes = a.turns.goes }

-- it was put there
abbrev pub walked_put : (old new : MachineView) (t n : ℕ) (here : Thread) → can_move (concrete old.view) t ≡ true
    → Ahead old.view t n here → IsPut old t here new → Walked old.view.program (parts old) t n (parts new)
walked_put old new t n here moves a is = record {
  origin = a.origin;
  here = here;
  stands = a.stands;
  moves = moves;
  turns = a.turns;
  there = ap (λ (m : MachineView). parts m) is;
}

-- or made its access from there
pub from_enters : (old new : MachineView) (t n : ℕ) (here there : Thread) (told : Access)
    → can_move (concrete old.view) t ≡ true → Ahead old.view t n here → DoneFrom told old t here new there
    → EntersOwn old.view.program (parts old) (entry t n (Some (told_access told))) (parts new)
from_enters old new t n here there told moves a d = record {
  origin = a.origin;
  here = here;
  stands = a.stands;
  moves = moves;
  goes = a.turns.goes;
  ends = (no_step (local_step old.view.program t here) d.shared, d.gives);
}

-- a step that is a thread's own alone
asks_other : (request : Request) → request_step request ≡ kind.Local → ⊥
asks_other (AskLoad a) h = cc
asks_other (AskStore a v) h = cc
asks_other (AskSwap a v) h = cc
asks_other (AskCompareSwap a expected new) h = cc
asks_other (AskOr a v) h = cc
asks_other (AskAdd a v) h = cc
asks_other (AskFork entry arguments has_room) h = cc
asks_other (AskPrint number) h = cc
asks_other (AskWait a expected) h = cc
asks_other (AskWake a n) h = cc
asks_other (AskRequeue a b n m expected) h = cc
asks_other AskReturn h = cc
asks_other (AskReturnValue v) h = cc
asks_other (AskFault cause) h = cc

pub is_own : (l : Look) → next_step_of l ≡ kind.Local → is_some (local_next l) ≡ true
is_own (Goes y) h = refl
is_own (Asks request go) h = absurd (asks_other request h)
is_own (Leaves phase) h = absurd cc
is_own Breaks h = absurd cc
is_own Rests h = absurd cc

-- what holds of what there is
pub some_so : {A : Type 0} → (P : A → Type 0) (o : Option A) (x : A) → o ≡ Some x → IfSome o P → P x
some_so P o x is h = subst (λ q. IfSome q P) is h

-- what holds of a value, and so something else does of an outcome behind it
pub and_on : {A B E : Type 0} → (P Q : Type 0) (r : Result A E) (b : B) (out : Result B E) → out ≡ result_and r (Ok b)
    → OnOk r P → (P → Q) → OnOk out Q
and_on P Q (Ok x) b out is h f = subst (λ o. OnOk o Q) (sym is) (f h)
and_on P Q (Err e) b out is h f = subst (λ o. OnOk o Q) (sym is) tt

pub none_so : {A P : Type 0} (o : Option A) → IfNone o P → ((x : A) → o ≡ Some x → ⊥) → P
none_so None h other = h
none_so (Some x) h other = absurd (other x refl)
