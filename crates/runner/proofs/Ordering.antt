-- The order in which the threads of a run on one thread go.
use Rattle.std.proofs.Common.{◌≡◌, ℕ, ◌+◌, ◌<◌, ◌≤◌, ◌++◌, ◌⊎◌, List, [], ◌∷◌, Bool, true, false, Option, Some, None, Result, Ok, Err}
use Rattle.std.proofs.Common.{inl, inr, refl, ap, sym, ◌∙◌, arith, subst, length, IfSome}
use Rattle.std.proofs.lemmas.Bool.{cases_eq, cases_lt}
use Rattle.std.proofs.lemmas.List.{append_assoc, append-nil}
use Rattle.isa.specs.Programs.{Program}
use Rattle.locals.specs.Steps.{local_after, local_step}
use Rattle.locals.specs.Threads.{Thread}
use Rattle.machine.specs.ConcreteSteps.{can_move}
use Rattle.machine.specs.declared.event.Entry.{Entry}
use Rattle.machine.specs.declared.event.Event.{Event}
use Rattle.machine.specs.declared.event.StepFault.{StepFault}
use Rattle.piece_machine.specs.PieceConcrete.{PieceConcrete, piece_of, with_local}
use Rattle.runner.specs.Entries.{Takes, entry_end_by}
use Rattle.runner.specs.Logs.{Runs, event_cost, opening}
use Rattle.runner.specs.Orders.{AllBetween, ComesInOrder, GoesOn, GoesOnTo, HasBegun, HasGoneAlone, HasMade, IsDue}
use Rattle.runner.specs.Orders.{IsInOrder, IsRoundOver, LiesBetween, last_of}
use Rattle.runner.specs.Reports.{IsHeldUp, IsNextEntry, IsStopped}
use Rattle.runner.specs.Rounds.{HasTurned}
use Rattle.runner.specs.Views.{LogState, PieceView}
use Rattle.runner.specs.Waits.{IsNextAround, IsNextFree}
use Rattle.runner.proofs.Growing.{inside}
use Rattle.runner.proofs.Passing.{made_within, mover_some}

-- the next entry of a thread costs something
none_over : (k new : PieceConcrete) (n : ℕ) (r : Result (PieceConcrete × Event) StepFault) (o : Option Thread)
    → entry_end_by k r o ≡ Ok (new, None) → (n < 256 → o ≡ None) → 256 ≤ n
none_over k new n r (Some x) gives whole = elim (cases_lt n 256) [
  | inl less ↦ absurd (cc (whole less))
  | inr past ↦ past
]
none_over k new n (Ok q) None gives whole =
    absurd (cc (ap (λ (x : PieceConcrete × Option Event). x.1) (inside _ _ gives)))
none_over k new n (Err f) None gives whole = absurd cc

pub next_costs : (p : Program) (k : PieceConcrete) (t n : ℕ) (e : Option Event) → IsNextEntry p k t n e
    → 1 ≤ n + event_cost e
next_costs p k t n (Some e) next = omega arith
next_costs p k t n None next =
    let over = none_over (with_local k t next.here) next.concrete n (piece_of p (with_local k t next.here) t)
    (local_step p t next.here) next.gives next.whole in
    omega (arith, over)

-- a piece that has taken the local steps of its turn and came in is that
pub taken_next : (p : Program) (limit : ℕ) (old new : LogState) (t : ℕ) (a : PieceView) (takes : Takes p limit old t a new)
    → local_after p a.thread a.count a.origin ≡ Some a.here → a.count ≤ 256
    → (a.count < 256 → local_step p a.thread a.here ≡ None) → IsNextEntry p old.concrete t a.count takes.event
taken_next p limit old new t a takes goes turn whole = record {
  origin = a.origin;
  here = a.here;
  concrete = new.concrete;
  stands = takes.stands.1;
  goes = ap (λ (u : ℕ). local_after p u a.count a.origin) (sym takes.stands.0) ∙ goes;
  turn = turn;
  whole = λ few. ap (λ (u : ℕ). local_step p u a.here) (sym takes.stands.0) ∙ whole few;
  gives = takes.gives;
}

-- a thread's next entry is due where each between it and the thread before that can move is stopped
pub due_so : (p : Program) (limit : ℕ) (h new : LogState) (last t : ℕ) → Runs p (opening p) h.log h.concrete
    → AllBetween p limit h last t → (made : HasMade p t h new) → IsDue p limit h.log last made.0
due_so p limit h new last t leads stopped made = record {
  concrete = h.concrete;
  leads = leads;
  moves = subst (λ (u : ℕ). can_move h.concrete.concrete u ≡ true) (sym made.1) made.2;
  next = subst (λ (u : ℕ). IsNextEntry p h.concrete u made.0.local made.0.event) (sym made.1) made.3;
  stopped = subst (λ (u : ℕ). AllBetween p limit h last u) (sym made.1) stopped;
}

-- one entry more in order
last_more : (first : ℕ) (es : List Entry) (e : Entry) → last_of first (es ++ e ∷ []) ≡ e.thread
last_more first [] e = refl
last_more first (x ∷ es) e = last_more x.thread es e

comes_more : (p : Program) (limit : ℕ) (start : List Entry) (first : ℕ) (es : List Entry) (e : Entry)
    → ComesInOrder p limit start first es → IsDue p limit (start ++ es) (last_of first es) e
    → ComesInOrder p limit start first (es ++ e ∷ [])
comes_more p limit start first [] e order due =
    (subst (λ (l : List Entry). IsDue p limit l first e) (append-nil start) due, tt)
comes_more p limit start first (x ∷ es) e order due = (
  order.0,
  comes_more p limit (start ++ x ∷ []) x.thread es e order.1
      (subst (λ (l : List Entry). IsDue p limit l (last_of x.thread es) e) (sym (append_assoc start (x ∷ []) es)) due),
)

pub goes_none : (p : Program) (limit : ℕ) (start : List Entry) → GoesOnTo p limit start start 0
goes_none p limit start = record { entries = []; grows = sym (append-nil start); order = tt; ends = refl }

pub goes_more : (p : Program) (limit : ℕ) (start : List Entry) (h new : LogState) (last t : ℕ)
    → Runs p (opening p) h.log h.concrete → AllBetween p limit h last t → GoesOnTo p limit start h.log last
    → HasMade p t h new → GoesOnTo p limit start new.log t
goes_more p limit start h new last t leads stopped g made =
    let e : Entry = made.0 in
    let due : IsDue p limit (start ++ g.entries) (last_of 0 g.entries) e =
    subst (λ (u : ℕ). IsDue p limit (start ++ g.entries) u e) g.ends
    (subst (λ (l : List Entry). IsDue p limit l last e) g.grows (due_so p limit h new last t leads stopped made)) in
    record {
      entries = g.entries ++ e ∷ [];
      grows = made.4 ∙ ap (λ (l : List Entry). l ++ e ∷ []) g.grows ∙ append_assoc start g.entries (e ∷ []);
      order = comes_more p limit start 0 g.entries e g.order due;
      ends = sym made.1 ∙ sym (last_more 0 g.entries e);
    }

-- nobody lies between, where there is one thread
none_between : (last t u : ℕ) → LiesBetween last t u → 0 < t → t ≤ 1 → 0 < u → u ≤ 1 → ⊥
none_between last t u (inl rises) t0 t1 u0 u1 = omega (arith, rises.0, rises.1, t0, t1, u0, u1)
none_between last t u (inr (falls, inl above)) t0 t1 u0 u1 = omega (arith, falls, above, t0, t1, u0, u1)
none_between last t u (inr (falls, inr below)) t0 t1 u0 u1 = omega (arith, falls, below, t0, t1, u0, u1)

all_alone : (p : Program) (limit : ℕ) (h : LogState) (last t : ℕ) → length h.concrete.concrete.threads ≤ 1
    → can_move h.concrete.concrete t ≡ true → AllBetween p limit h last t
all_alone p limit h last t few moves u lies goes =
    let made = made_within h.concrete.concrete t moves in
    let made' = made_within h.concrete.concrete u goes in
    absurd (none_between last t u lies (mover_some h.concrete.concrete t moves) (omega (arith, made, few))
    (mover_some h.concrete.concrete u goes) (omega (arith, made', few)))

-- the only thread makes an entry
pub alone_more : (p : Program) (limit t : ℕ) (old mid new : LogState) → Runs p (opening p) mid.log mid.concrete
    → length mid.concrete.concrete.threads ≤ 1 → can_move mid.concrete.concrete t ≡ true
    → HasGoneAlone p limit t old mid → HasMade p t mid new → HasGoneAlone p limit t old new
alone_more p limit t old mid new leads few moves (inl same) made = inr (λ start last g.
    goes_more p limit start mid new last t leads (all_alone p limit mid last t few moves)
    (subst (λ (h : LogState). GoesOnTo p limit start h.log last) (sym same) g) made)
alone_more p limit t old mid new leads few moves (inr gone) made = inr (λ start last g.
    goes_more p limit start mid new t t leads (all_alone p limit mid t t few moves) (gone start last g) made)

-- what came of the first rounds, whether or not there are other threads by then
pub begun_alone : (p : Program) (limit : ℕ) (old new : LogState) (forked : Bool)
    → (forked ≡ true → 1 < length new.concrete.concrete.threads)
    → (forked ≡ false → length new.concrete.concrete.threads ≤ 1)
    → length old.concrete.concrete.threads ≤ 1 → HasGoneAlone p limit 1 old new → HasBegun forked p limit old.log new
begun_alone p limit old new true more few one (inl same) =
    absurd (omega (arith, more refl, one, ap (λ (h : LogState). length h.concrete.concrete.threads) same))
begun_alone p limit old new true more few one (inr gone) = gone old.log 0 (goes_none p limit old.log)
begun_alone p limit old new false more few one (inl same) =
    (0, subst (λ (h : LogState). GoesOnTo p limit old.log h.log 0) (sym same) (goes_none p limit old.log), inl refl)
begun_alone p limit old new false more few one (inr gone) = (
  1,
  gone old.log 0 (goes_none p limit old.log),
  inr (λ u above moves. absurd (omega (arith, above, made_within new.concrete.concrete u moves, few refl))),
)

-- a round behind thread 1: the last entry is of a thread up to this one, and each between them that can move is stopped
pub record HasComeTo (p : Program) (limit : ℕ) (start : List Entry) (h : LogState) (t : ℕ) : Type 0 where
  pub last : ℕ
  pub goes : GoesOnTo p limit start h.log last
  pub below : last ≤ t
  pub stopped : (u : ℕ) → last < u → u ≤ t → can_move h.concrete.concrete u ≡ true → IsStopped p limit h.log h.concrete u

pub come_first : (p : Program) (limit : ℕ) (start : List Entry) (h : LogState) → GoesOnTo p limit start h.log 1
    → HasComeTo p limit start h 1
come_first p limit start h g = record {
  last = 1;
  goes = g;
  below = omega arith;
  stopped = λ u above below moves. absurd (omega (arith, above, below));
}

come_between : (last t u : ℕ) → last ≤ t → LiesBetween last (t + 1) u → (last < u) × (u ≤ t)
come_between last t u below (inl rises) = (rises.0, omega (arith, rises.1))
come_between last t u below (inr (falls, rest)) = absurd (omega (arith, below, falls))

-- the next thread has made an entry, or can make none
pub come_made : (p : Program) (limit : ℕ) (start : List Entry) (old new : LogState) (t : ℕ)
    → Runs p (opening p) old.log old.concrete → HasComeTo p limit start old t → HasMade p (t + 1) old new
    → HasComeTo p limit start new (t + 1)
come_made p limit start old new t leads c made = record {
  last = t + 1;
  goes = goes_more p limit start old new c.last (t + 1) leads
      (λ u lies moves. let b = come_between c.last t u c.below lies in c.stopped u b.0 b.1 moves) c.goes made;
  below = omega arith;
  stopped = λ u above below moves. absurd (omega (arith, above, below));
}

pub come_still : (p : Program) (limit : ℕ) (start : List Entry) (old new : LogState) (t : ℕ) → new ≡ old
    → (can_move new.concrete.concrete (t + 1) ≡ true → IsStopped p limit new.log new.concrete (t + 1))
    → HasComeTo p limit start old t → HasComeTo p limit start new (t + 1)
come_still p limit start old new t same now c =
    let d : HasComeTo p limit start new t = subst (λ (h : LogState). HasComeTo p limit start h t) (sym same) c in
    record {
      last = d.last;
      goes = d.goes;
      below = omega (arith, d.below);
      stopped = λ u above below moves. elim (cases_eq u (t + 1)) [
        | inl e ↦ subst (λ (v : ℕ). IsStopped p limit new.log new.concrete v) (sym e)
            (now (ap (can_move new.concrete.concrete) (sym e) ∙ moves))
        | inr other ↦ d.stopped u above (omega (arith, below, other)) moves
      ];
    }

pub come_on : (made : Bool) (p : Program) (limit : ℕ) (start : List Entry) (old new : LogState) (t : ℕ)
    → Runs p (opening p) old.log old.concrete → HasComeTo p limit start old t
    → (made ≡ true → HasMade p (t + 1) old new)
    → (made ≡ false → (new ≡ old)
    × (can_move new.concrete.concrete (t + 1) ≡ true → IsStopped p limit new.log new.concrete (t + 1)))
    → HasComeTo p limit start new (t + 1)
come_on true p limit start old new t leads c grown still = come_made p limit start old new t leads c (grown refl)
come_on false p limit start old new t leads c grown still =
    let s = still refl in come_still p limit start old new t s.0 s.1 c

-- behind the last thread the round is over
pub come_over : (p : Program) (limit : ℕ) (start : List Entry) (h : LogState) (t : ℕ) → HasComeTo p limit start h t
    → length h.concrete.concrete.threads ≤ t → HasBegun false p limit start h
come_over p limit start h t c all = (
  c.last,
  c.goes,
  inr (λ u above moves. c.stopped u above (omega (arith, made_within h.concrete.concrete u moves, all)) moves),
)

-- the turn of a thread: each between that of the last entry and it that can move is stopped
pub record IsOnTurn (p : Program) (limit : ℕ) (start : List Entry) (h : LogState) (t : ℕ) : Type 0 where
  pub last : ℕ
  pub goes : GoesOnTo p limit start h.log last
  pub between : AllBetween p limit h last t

pub turn_first : (p : Program) (limit : ℕ) (start : List Entry) (h : LogState) (t : ℕ) → HasBegun false p limit start h
    → 0 < t → IsNextFree p h.concrete 1 (Some t) → IsOnTurn p limit start h t
turn_first p limit start h t (last, g, over) some free = record {
  last = last;
  goes = g;
  between = λ u lies moves. by over u lies moves;
}
  where
    below : (u : ℕ) → u < t → can_move h.concrete.concrete u ≡ true → IsStopped p limit h.log h.concrete u
    below u less moves = inr (free.2 u (mover_some h.concrete.concrete u moves) less moves)

    by : IsRoundOver p limit h last → (u : ℕ) → LiesBetween last t u → can_move h.concrete.concrete u ≡ true
        → IsStopped p limit h.log h.concrete u
    by o u (inl rises) moves = below u rises.1 moves
    by o u (inr (falls, inr less)) moves = below u less moves
    by (inl none) u (inr (falls, inl above)) moves = absurd (omega (arith, falls, none, some))
    by (inr stopped) u (inr (falls, inl above)) moves = stopped u above moves

-- those between a thread and the one that is found behind it are held up
around_between : (p : Program) (k : PieceConcrete) (last t u : ℕ) → IsNextAround p k last (Some t) → LiesBetween last t u
    → can_move k.concrete u ≡ true → IsHeldUp p k u
around_between p k last t u (inl free) (inl rises) moves = free.2 u (omega (arith, rises.0)) rises.1 moves
around_between p k last t u (inl free) (inr (falls, rest)) moves = absurd (omega (arith, falls, free.0))
around_between p k last t u (inr (rest, first)) (inl rises) moves = rest u (omega (arith, rises.0)) moves
around_between p k last t u (inr (rest, first)) (inr (falls, inl above)) moves = rest u (omega (arith, above)) moves
around_between p k last t u (inr (rest, first)) (inr (falls, inr below)) moves =
    first.2 u (mover_some k.concrete u moves) below moves

-- a thread on its turn has made an entry, and another is found behind it
pub turn_made : (p : Program) (limit : ℕ) (start : List Entry) (old new : LogState) (t u : ℕ)
    → Runs p (opening p) old.log old.concrete → IsOnTurn p limit start old t → HasMade p t old new
    → IsNextAround p new.concrete t (Some u) → IsOnTurn p limit start new u
turn_made p limit start old new t u leads on made around = record {
  last = t;
  goes = goes_more p limit start old new on.last t leads on.between on.goes made;
  between = λ v lies moves. inr (around_between p new.concrete t u v around lies moves);
}

pub turn_last : (p : Program) (limit : ℕ) (start : List Entry) (old new : LogState) (t : ℕ)
    → Runs p (opening p) old.log old.concrete → IsOnTurn p limit start old t → HasMade p t old new
    → GoesOn p limit start new.log
turn_last p limit start old new t leads on made =
    (t, goes_more p limit start old new on.last t leads on.between on.goes made)

-- who lies between one thread and a third, which comes behind a second one: before the second, it, or behind it
split_between : (last t u v : ℕ) → LiesBetween last u v → LiesBetween last t v ⊎ (v ≡ t) ⊎ LiesBetween t u v
split_between last t u v lies = elim (cases_eq v t) [
  | inl e ↦ inr (inl e)
  | inr other ↦ elim (cases_lt v t) [
    | inl less ↦ below lies less
    | inr past ↦ above lies (omega (arith, past, other))
  ]
]
  where
    below : LiesBetween last u v → v < t → LiesBetween last t v ⊎ (v ≡ t) ⊎ LiesBetween t u v
    below (inl rises) less = inl (inl (rises.0, less))
    below (inr (falls, inl more)) less = inl (inl (more, less))
    below (inr (falls, inr before)) less = elim (cases_lt last t) [
      | inl under ↦ inr (inr (inr (omega (arith, falls, under), inr before)))
      | inr over ↦ inl (inr (over, inr less))
    ]

    above : LiesBetween last u v → t < v → LiesBetween last t v ⊎ (v ≡ t) ⊎ LiesBetween t u v
    above (inl rises) more = inr (inr (inl (more, rises.1)))
    above (inr (falls, inr before)) more = inr (inr (inl (more, before)))
    above (inr (falls, inl over)) more = elim (cases_lt last t) [
      | inl under ↦ inr (inr (inr (omega (arith, falls, under), inl more)))
      | inr at ↦ inl (inr (at, inl over))
    ]

-- a thread on its turn has made none, and another is found behind it
pub turn_still : (p : Program) (limit : ℕ) (start : List Entry) (old new : LogState) (t u : ℕ)
    → IsOnTurn p limit start old t → HasTurned false p limit old new t → IsNextAround p new.concrete t (Some u)
    → IsOnTurn p limit start new u
turn_still p limit start old new t u on still around =
    let now : IsOnTurn p limit start new t = subst (λ (h : LogState). IsOnTurn p limit start h t) (sym still.0) on in
    record {
      last = now.last;
      goes = now.goes;
      between = λ v lies moves. elim (split_between now.last t u v lies) [
        | inl before ↦ now.between v before moves
        | inr (inl e) ↦ subst (λ (w : ℕ). IsStopped p limit new.log new.concrete w) (sym e)
            (still.1 (ap (can_move new.concrete.concrete) (sym e) ∙ moves))
        | inr (inr behind) ↦ inr (around_between p new.concrete t u v around behind moves)
      ];
    }

pub turn_none : (p : Program) (limit : ℕ) (start : List Entry) (old new : LogState) (t : ℕ)
    → IsOnTurn p limit start old t → HasTurned false p limit old new t → GoesOn p limit start new.log
turn_none p limit start old new t on still =
    (on.last, subst (λ (h : LogState). GoesOnTo p limit start h.log on.last) (sym still.0) on.goes)

-- a log that has grown from nothing
pub in_order : (p : Program) (limit : ℕ) (start log : List Entry) → start ≡ [] → GoesOn p limit start log
    → IsInOrder p limit log
in_order p limit start log none (last, g) =
    let all : ComesInOrder p limit [] 0 g.entries =
    subst (λ (l : List Entry). ComesInOrder p limit l 0 g.entries) none g.order in
    subst (λ (l : List Entry). ComesInOrder p limit [] 0 l)
    (sym (g.grows ∙ ap (λ (l : List Entry). l ++ g.entries) none)) all

-- where there is none behind a thread, it is the first one from the beginning on
pub around_again : (p : Program) (k : PieceConcrete) (last : ℕ) (o : Option ℕ) → IsNextFree p k (last + 1) None
    → IsNextFree p k 1 o → IfSome o (λ (u : ℕ). IsNextAround p k last (Some u))
around_again p k last None none free = tt
around_again p k last (Some u) none free = inr (none, free)

-- what is begun, by whether thread 1 has forked
pub begun_as : (forked other : Bool) (p : Program) (limit : ℕ) (start : List Entry) (h : LogState) → forked ≡ other
    → HasBegun forked p limit start h → HasBegun other p limit start h
begun_as forked other p limit start h is begun = subst (λ (b : Bool). HasBegun b p limit start h) is begun
