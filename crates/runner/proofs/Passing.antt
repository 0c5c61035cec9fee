-- A thread whose next entry would pass the limit keeps that through the entries of others.
use Rattle.std.proofs.Common.{◌≡◌, ◌≢◌, ℕ, zero, suc, ◌+◌, ◌-◌, ◌<◌, ◌≤◌, ◌==◌, Bool, true, false, not}
use Rattle.std.proofs.Common.{List, length, Option, Some, None, Result, Ok, Err, OnOk, slice_get}
use Rattle.std.proofs.Common.{slice_set, replicate, inl, inr, refl, ap, sym, ◌∙◌, arith, subst, length-set}
use Rattle.std.proofs.lemmas.Bool.{both_ways, cases_eq, cases_lt}
use Rattle.std.proofs.lemmas.Option.{slice_get_within}
use Rattle.words.specs.Limits.{most_threads}
use Rattle.isa.specs.Programs.{Program}
use Rattle.locals.specs.Threads.{Thread}
use Rattle.locals.specs.Looks.{look}
use Rattle.locals.specs.Steps.{local_step, local_after}
use Rattle.machine.specs.declared.event.Entry.{Entry}
use Rattle.machine.specs.declared.event.Event.{Event}
use Rattle.machine.specs.declared.event.StepFault.{StepFault}
use Rattle.machine.specs.declared.event.StepFault.TheVariants.{Broken, CannotMove}
use Rattle.machine.specs.States.{ConcreteState, thread_of, state_of}
use Rattle.machine.specs.Runs.{IsBroken}
use Rattle.machine.specs.ThreadSets.{IsLeastFrom}
use Rattle.machine.specs.ConcreteSteps.{put_thread, can_move, thread_can_move}
use Rattle.machine.proofs.Placing.{get_set_other, thread_at-other, thread_at-put}
use Rattle.piece_machine.specs.PieceConcrete.{PieceConcrete, pieces_at, piece_of, with_local, stray_piece, kill_piece}
use Rattle.piece_machine.specs.PieceDetermined.{IsFit}
use Rattle.piece_machine.specs.PieceViews.{own_step, stray_step, kill_step}
use Rattle.piece_machine.proofs.Beyond.{piece_strays_so, piece_kills_so}
use Rattle.piece_machine.proofs.Determined.{piece_steps_so}
use Rattle.piece_machine.proofs.Refused.{piece_breaks_so}
use Rattle.runner.specs.declared.fault.RunFault.TheVariants.{Limit}
use Rattle.runner.specs.declared.fault.RunFault.TheVariants.{CannotMove as CannotMove'}
use Rattle.runner.specs.Views.{PieceView, LogState}
use Rattle.runner.specs.Logs.{Ends, EntersOwn, event_cost, cost}
use Rattle.runner.specs.Entries.{entry_end, Takes, TakesKill, TakesOutside, RefusesEntry}
use Rattle.runner.specs.Reports.{IsHeldUp, IsStopped, PassesLimit}
use Rattle.runner.specs.Rounds.{AllPast, IsPast, step_cost}
use Rattle.runner.proofs.Handing.{costs_so, refused_by, refused_end, up}
use Rattle.runner.proofs.Growing.{cost_more, ends}
use Rattle.runner.proofs.Beside.{Beside, kills_beside, own_beside, stray_beside}
use Rattle.runner.proofs.Locally.{broken_there}
use Rattle.runner.proofs.Once.{no_stray}
use Rattle.runner.proofs.Unrolling.{kept_put}

-- what an entry leaves to the other threads
pub record Apart (p : Program) (k k' : PieceConcrete) (t : ℕ) : Type 0 where
  pub beside : Beside t (state_of k.concrete) (state_of k'.concrete)
  pub phases : (u : ℕ) → u ≢ t → k'.phase u ≡ k.phase u
  pub buckets : k'.buckets ≡ k.buckets
  pub fit : IsFit p k'

numbered : (k : ConcreteState) (u : ℕ) (x : Thread) → thread_of k u ≡ Some x → u ≤ length k.threads
numbered k zero x h = absurd cc
numbered k (suc u) x h = let w = slice_get_within k.threads u x h in omega arith

put_beside : (k : ConcreteState) (t : ℕ) (o here : Thread) → thread_of k t ≡ Some o
    → Beside t (state_of k) (state_of (put_thread k t here))
put_beside k t o here stands = record {
  stay = λ u x other h. thread_at-other k.threads t u here o stands other ∙ h;
  awake = λ u other h. h;
  made = omega (arith, length-set k.threads (t - 1) here);
}

both : (t : ℕ) (k mid k' : ConcreteState) → Beside t (state_of k) (state_of mid)
    → Beside t (state_of mid) (state_of k') → Beside t (state_of k) (state_of k')
both t k mid k' a b = record {
  stay = λ u x other h. b.stay u x other (a.stay u x other h);
  awake = λ u other h. b.awake u other (a.awake u other h);
  made = omega (arith, a.made, b.made);
}

ends_apart : (p : Program) (k k' : PieceConcrete) (t : ℕ) (o here : Thread) (event : Option Event)
    → IsFit p (with_local k t here) → thread_of k.concrete t ≡ Some o → Ends p (with_local k t here) t here event k'
    → Apart p k k' t
ends_apart p k k' t o here None fit stands is =
    subst (λ (q : PieceConcrete). Apart p k q t) (sym is)
    (record { beside = put_beside k.concrete t o here stands; phases = λ u other. refl; buckets = refl; fit = fit })
ends_apart p k k' t o here (Some e) fit stands is =
    let there = with_local k t here in
    let s = piece_steps_so p there k' t e fit is.1 in
    let b = own_beside p (pieces_at there) (pieces_at k') (own_step (pieces_at k') t s.0.woken)
    (numbered there.concrete) s.0.step in
    record {
      beside = both t k.concrete there.concrete k'.concrete (put_beside k.concrete t o here stands) b.base;
      phases = b.phases;
      buckets = b.buckets;
      fit = s.1;
    }

apart : (p : Program) (k k' : PieceConcrete) (t n : ℕ) (o here : Thread) (event : Option Event) → IsFit p k
    → can_move k.concrete t ≡ true → thread_of k.concrete t ≡ Some o → local_after p t n o ≡ Some here
    → entry_end p k t here ≡ Ok (k', event) → Apart p k k' t
apart p k k' t n o here event fit moves stands goes given =
    ends_apart p k k' t o here event (kept_put p k t n o here fit (up k.concrete t moves).awake stands goes) stands
    (ends p k k' t here event given)

-- the same of an entry of its own
pub entered_apart : (p : Program) (k k' : PieceConcrete) (e : Entry) → IsFit p k → EntersOwn p k e k'
    → Apart p k k' e.thread
entered_apart p k k' e fit enters =
    ends_apart p k k' e.thread enters.origin enters.here e.event
    (kept_put p k e.thread e.local enters.origin enters.here fit (up k.concrete e.thread enters.moves).awake enters.stands
    enters.goes) enters.stands enters.ends

pub outside_apart : (p : Program) (k k' : PieceConcrete) (t : ℕ) (event : Event) → IsFit p k
    → stray_piece k t ≡ Ok (k', event) → Apart p k k' t
outside_apart p k k' t event fit gives =
    let s = piece_strays_so p k k' t event fit gives in
    let b = stray_beside event.value (pieces_at k) (pieces_at k') (stray_step t event.value) s.0.step in
    record { beside = b.base; phases = b.phases; buckets = b.buckets; fit = s.1 }

pub kill_apart : (p : Program) (k k' : PieceConcrete) (t : ℕ) (event : Event) → IsFit p k
    → kill_piece p k t ≡ Ok (k', event) → Apart p k k' t
kill_apart p k k' t event fit gives =
    let s = piece_kills_so p k k' t event fit gives in
    let b = kills_beside p (event.value == 1) (pieces_at k) (pieces_at k') (kill_step t (event.value == 1)) s.0.step in
    record { beside = b.base; phases = b.phases; buckets = b.buckets; fit = s.1 }

-- a thread that can move still can after another's entry
pub moves_stay : (p : Program) (k k' : PieceConcrete) (t u : ℕ) → Apart p k k' t → u ≢ t → can_move k.concrete u ≡ true
    → can_move k'.concrete u ≡ true
moves_stay p k k' t u a other moves =
    let is = up k.concrete u moves in
    let awake = a.beside.awake u other is.awake in
    let stands = a.beside.stay u is.thread other is.stands in
    (λ i. thread_can_move (awake i) (stands i)) ∙ ap not is.lives

-- its next entry isn't broken by that either
may_be_still : (p : Program) (k k' : PieceConcrete) (t u n : ℕ) (o here : Thread) → IsFit p k → Apart p k k' t → u ≢ t
    → thread_of k.concrete u ≡ Some o → k.concrete.common.asleep u ≡ None → thread_of k'.concrete u ≡ Some o
    → k'.concrete.common.asleep u ≡ None → local_after p u n o ≡ Some here → entry_end p k' u here ≡ Err Broken
    → entry_end p k u here ≡ Err Broken
may_be_still p k k' t u n o here kept a other stands awake stands' awake' goes breaks =
    let there = with_local k u here in
    let there' = with_local k' u here in
    let b = refused_by there' (piece_of p there' u) (local_step p u here) Broken breaks in
    let fit = kept_put p k u n o here kept awake stands goes in
    let fit' = kept_put p k' u n o here a.fit awake' stands' goes in
    let m = (piece_breaks_so p there' u fit').0 b.1 in
    let n = m.1 in
    let same : Some here ≡ Some n.thread = sym (thread_at-put k'.concrete.threads u o here stands') ∙ n.stands in
    let is : n.thread ≡ here = cc in
    let broken : IsBroken (state_of there'.concrete) (look p u here) = subst
    (λ (x : Thread). IsBroken (state_of there'.concrete) (look p u x)) is n.breaks in
    let step : piece_of p there u ≡ Err Broken = (piece_breaks_so p there u fit).1 (
      sym (a.phases u other) ∙ m.0,
      record {
        thread = here;
        stands = thread_at-put k.concrete.threads u o here stands;
        awake = awake;
        breaks = broken_there (look p u here) (state_of there'.concrete) (state_of there.concrete)
            (kept.well.sized ∙ sym a.fit.well.sized)
            (omega (
              arith,
              a.beside.made,
              length-set k.concrete.threads (u - 1) here,
              length-set k'.concrete.threads (u - 1) here,
            ))
            (kept.well.most ∙ sym a.fit.well.most) broken;
      },
    ) in
    refused_end there (piece_of p there u) (local_step p u here) Broken b.0 step

past_stays : (p : Program) (limit : ℕ) (h h' : LogState) (t u : ℕ) → IsFit p h.concrete
    → Apart p h.concrete h'.concrete t → u ≢ t → cost h.log ≤ cost h'.log
    → IsPast p limit h.log h.concrete u → IsPast p limit h'.log h'.concrete u
past_stays p limit h h' t u kept a other more w =
    let is = up h.concrete.concrete u w.moves in
    let stands = a.beside.stay u w.origin other w.stands in
    let awake = a.beside.awake u other is.awake in
    let before = w.past in
    record {
      count = w.count;
      origin = w.origin;
      here = w.here;
      moves = moves_stay p h.concrete h'.concrete t u a other w.moves;
      stands = stands;
      goes = w.goes;
      turn = w.turn;
      whole = w.whole;
      may_be = λ breaks. w.may_be (may_be_still p h.concrete h'.concrete t u w.count w.origin w.here kept a other
          w.stands is.awake stands awake w.goes breaks);
      past = omega (arith, before, more);
    }

clash : (let O : Type 0 = Option Bool in (let x : O = Some true in x) ≡ (let y : O = Some false in y)) → ⊥
clash h = cc

-- an entry of a thread that wasn't refused
pub all_past : (p : Program) (limit : ℕ) (old new : LogState) (t : ℕ) (a : PieceView) (refused : List Bool)
    → IsFit p old.concrete → local_after p a.thread a.count a.origin ≡ Some a.here → Takes p limit old t a new
    → slice_get refused t ≡ Some false → AllPast p limit old refused → AllPast p limit new refused
all_past p limit old new t a refused concrete goes takes free past u is =
    let here : local_after p t a.count a.origin ≡ Some a.here =
    ap (λ v. local_after p v a.count a.origin) (sym takes.stands.0) ∙ goes in
    let m = apart p old.concrete new.concrete t a.count a.origin a.here takes.event concrete takes.moves takes.stands.1
    here takes.gives in
    let other : u ≢ t = λ e. clash (sym is ∙ ap (slice_get refused) e ∙ free) in
    let more : cost new.log ≡ cost old.log + (a.count + event_cost takes.event) = ap cost takes.log
    ∙ cost_more old.log t a.count takes.event in
    past_stays p limit old new t u concrete m other (omega arith) (past u is)

-- a wake from outside
pub wake_past : (p : Program) (limit : ℕ) (old new : LogState) (t : ℕ) (refused : List Bool)
    → IsFit p old.concrete → TakesOutside limit old t new → AllPast p limit old refused
    → AllPast p limit new refused
wake_past p limit old new t refused concrete takes past u is =
    let m = outside_apart p old.concrete new.concrete t takes.event concrete takes.gives in
    let awake = (up old.concrete.concrete u (past u is).moves).awake in
    let other : u ≢ t = λ e. no_stray old.concrete u (new.concrete, takes.event) awake
    (ap (stray_piece old.concrete) e ∙ takes.gives) in
    let more : cost new.log ≡ cost old.log + (0 + event_cost (Some takes.event)) = ap cost takes.log
    ∙ cost_more old.log t 0 (Some takes.event) in
    past_stays p limit old new t u concrete m other (omega (arith, more)) (past u is)

-- a kill of a thread that wasn't refused
pub kill_past : (p : Program) (limit : ℕ) (old new : LogState) (t : ℕ) (refused : List Bool)
    → IsFit p old.concrete → TakesKill p limit old t new → slice_get refused t ≡ Some false
    → AllPast p limit old refused → AllPast p limit new refused
kill_past p limit old new t refused concrete takes free past u is =
    let m = kill_apart p old.concrete new.concrete t takes.event concrete takes.gives in
    let other : u ≢ t = λ e. clash (sym is ∙ ap (slice_get refused) e ∙ free) in
    let more : cost new.log ≡ cost old.log + (0 + event_cost (Some takes.event)) = ap cost takes.log
    ∙ cost_more old.log t 0 (Some takes.event) in
    past_stays p limit old new t u concrete m other (omega (arith, more)) (past u is)

-- a thread that is refused now
pub one_past : (p : Program) (limit : ℕ) (h : LogState) (t : ℕ) (refused : List Bool)
    → IsPast p limit h.log h.concrete t → AllPast p limit h refused → AllPast p limit h (slice_set refused t true)
one_past p limit h t refused now past u is =
    elim (cases_eq u t) [
      | inl e ↦ subst (λ (v : ℕ). IsPast p limit h.log h.concrete v) (sym e) now
      | inr other ↦ past u (sym (get_set_other refused t u true other) ∙ is)
    ]

pub none_true : (n t : ℕ) → slice_get (replicate n false) t ≡ Some true → ⊥
none_true zero t h = cc
none_true (suc n) zero h = cc
none_true (suc n) (suc t) h = none_true n t h

-- nobody is refused at the start
pub none_past : (p : Program) (limit n : ℕ) (h : LogState) → AllPast p limit h (replicate n false)
none_past p limit n h t is = absurd (none_true n t is)

-- what comes of an entry that may be
ended_so : (r : Result (PieceConcrete × Option Event) StepFault) (k : PieceConcrete) (e : Option Event) → r ≡ Ok (k, e)
    → r ≡ Err Broken → ⊥
ended_so r k e done breaks = absurd (cc (sym done ∙ breaks))

-- a piece that ran and was refused with Limit is past it
pub passes : (p : Program) (limit : ℕ) (h : LogState) (t : ℕ) (a : PieceView) → RefusesEntry p limit h t a Limit
    → local_after p a.thread a.count a.origin ≡ Some a.here → a.count ≤ 256
    → (a.count < 256 → local_step p a.thread a.here ≡ None)
    → IsPast p limit h.log h.concrete t
passes p limit h t a refused goes turn whole =
    let costs = costs_so (with_local h.concrete t a.here) refused.2 (piece_of p (with_local h.concrete t a.here) t)
    (local_step p t a.here) refused.3 refused.4 in
    let past = refused.5 in
    record {
      count = a.count;
      origin = a.origin;
      here = a.here;
      moves = refused.1;
      stands = refused.0.1;
      goes = ap (λ u. local_after p u a.count a.origin) (sym refused.0.0) ∙ goes;
      turn = turn;
      whole = λ few. ap (λ u. local_step p u a.here) (sym refused.0.0) ∙ whole few;
      may_be = ended_so (entry_end p h.concrete t a.here) refused.2 refused.3 refused.4;
      past = omega (arith, past, costs);
    }

-- and its next entry would pass it now
pub passes_limit : (p : Program) (limit : ℕ) (h : LogState) (t : ℕ) (a : PieceView) → RefusesEntry p limit h t a Limit
    → local_after p a.thread a.count a.origin ≡ Some a.here → a.count ≤ 256
    → (a.count < 256 → local_step p a.thread a.here ≡ None) → PassesLimit p limit h.log h.concrete t
passes_limit p limit h t a refused goes turn whole = record {
  count = a.count;
  event = refused.3;
  entry = record {
    origin = a.origin;
    here = a.here;
    concrete = refused.2;
    stands = refused.0.1;
    goes = ap (λ u. local_after p u a.count a.origin) (sym refused.0.0) ∙ goes;
    turn = turn;
    whole = λ few. ap (λ u. local_step p u a.here) (sym refused.0.0) ∙ whole few;
    gives = refused.4;
  };
  past = refused.5;
}

-- one that a held bucket is in the way of is held up
pub holds_up : (p : Program) (limit : ℕ) (h : LogState) (t : ℕ) (a : PieceView) → RefusesEntry p limit h t a CannotMove'
    → can_move h.concrete.concrete t ≡ true → local_after p a.thread a.count a.origin ≡ Some a.here → a.count ≤ 256
    → (a.count < 256 → local_step p a.thread a.here ≡ None)
    → IsHeldUp p h.concrete t
holds_up p limit h t a (stands, inl rests) moves goes turn whole = absurd (both_ways (can_move h.concrete.concrete t) rests moves)
holds_up p limit h t a (stands, inr waits) moves goes turn whole = record {
  count = a.count;
  origin = a.origin;
  here = a.here;
  moves = moves;
  stands = stands.1;
  goes = ap (λ u. local_after p u a.count a.origin) (sym stands.0) ∙ goes;
  turn = turn;
  whole = λ few. ap (λ u. local_step p u a.here) (sym stands.0) ∙ whole few;
  waits = waits;
}

-- who is past the limit can make no entry: its next one would pass it, or a held bucket is in its way
pub stops : (p : Program) (limit : ℕ) (h : LogState) (t : ℕ) → IsPast p limit h.log h.concrete t
    → IsStopped p limit h.log h.concrete t
stops p limit h t w = by (entry_end p h.concrete t w.here) refl
  where
    k : PieceConcrete
    k = h.concrete

    by : (r : Result (PieceConcrete × Option Event) StepFault) → entry_end p k t w.here ≡ r
        → IsStopped p limit h.log k t
    by (Ok q) is =
        let costs = costs_so (with_local k t w.here) q.0 (piece_of p (with_local k t w.here) t) (local_step p t w.here) q.1
        is in
        let past = w.past in
        inl (record {
          count = w.count;
          event = q.1;
          entry = record {
            origin = w.origin;
            here = w.here;
            concrete = q.0;
            stands = w.stands;
            goes = w.goes;
            turn = w.turn;
            whole = w.whole;
            gives = is;
          };
          past = omega (arith, past, costs);
        })
    by (Err Broken) is = absurd (w.may_be is)
    by (Err CannotMove) is = inr (record {
      count = w.count;
      origin = w.origin;
      here = w.here;
      moves = w.moves;
      stands = w.stands;
      goes = w.goes;
      turn = w.turn;
      whole = w.whole;
      waits = is;
    })

-- a thread that can move was made
pub made_within : (k : ConcreteState) (u : ℕ) → can_move k u ≡ true → u ≤ length k.threads
made_within k u moves = let is = up k u moves in numbered k u is.thread is.stands

pub mover_some : (k : ConcreteState) (t : ℕ) → can_move k t ≡ true → 0 < t
mover_some k zero moves = absurd cc
mover_some k (suc t) moves = omega arith

-- and has a number that there is
pub mover_number : (p : Program) (k : PieceConcrete) (t : ℕ) → IsFit p k → can_move k.concrete t ≡ true
    → (0 < t) × (t ≤ most_threads)
mover_number p k t fit moves =
    let made = made_within k.concrete t moves in
    (mover_some k.concrete t moves, omega (arith, made, fit.well.few, fit.well.fits))

-- what holds of those below a number that pass a test holds of them below the first from there on
pub up_to : (test : ℕ → Bool) (from t : ℕ) (Q : ℕ → Type 0) → ((u : ℕ) → u < from → test u ≡ true → Q u)
    → IsLeastFrom test from (Some t) → (u : ℕ) → u < t → test u ≡ true → Q u
up_to test from t Q before least u below passes = elim (cases_lt u from) [
  | inl less ↦ before u less passes
  | inr at ↦ absurd (both_ways (test u) (least.2 u at below) passes)
]

-- and of all of them where there is none from there on
pub all_from : (test : ℕ → Bool) (from : ℕ) (Q : ℕ → Type 0) → ((u : ℕ) → u < from → test u ≡ true → Q u)
    → IsLeastFrom test from None → (u : ℕ) → test u ≡ true → Q u
all_from test from Q before none u passes = elim (cases_lt u from) [
  | inl less ↦ before u less passes
  | inr at ↦ absurd (both_ways (test u) (none u at) passes)
]

-- where the limit leaves room for any entry, nobody is past it
step_small : (o : Option Thread) → step_cost o ≤ 1
step_small None = omega arith
step_small (Some x) = omega arith

pub none_yet : (p : Program) (limit : ℕ) (h h' : LogState) (refused : List Bool) → AllPast p limit h refused
    → cost h.log + 257 ≤ limit → AllPast p limit h' refused
none_yet p limit h h' refused past room t is =
    let x = past t is in
    absurd (omega (arith, x.past, x.turn, room, step_small (local_step p t x.here)))

-- what holds holds behind any outcome
pub on_any : {A E P : Type 0} (r : Result A E) → P → OnOk r P
on_any (Ok x) h = h
on_any (Err e) h = tt
