-- A program, a limit, a seed, and what was asked for from outside have one log.
use Rattle.std.proofs.Common.{◌≡◌, ℕ, zero, suc, ◌+◌, ◌<◌, ◌≤◌, ◌++◌, ◌⊎◌, Bool, List, [], ◌∷◌, Option, Some, None, Ok, Result}
use Rattle.std.proofs.Common.{inl, inr, ap, sym, ◌∙◌, arith, subst}
use Rattle.std.proofs.lemmas.Bool.{cases_eq, cases_lt}
use Rattle.rand_core.specs.Stream.{Stream}
use Rattle.isa.specs.Programs.{Program}
use Rattle.machine.specs.declared.event.Entry.{Entry}
use Rattle.machine.specs.declared.event.Event.{Event}
use Rattle.machine.specs.declared.event.StepFault.{StepFault}
use Rattle.piece_machine.specs.PieceConcrete.{PieceConcrete}
use Rattle.runner.specs.declared.drawing.Drawn.{Drawn}
use Rattle.runner.specs.declared.drawing.Drawn.TheVariants.{Living, Mover, Sleeper}
use Rattle.runner.specs.declared.drawing.Outside.{Outside}
use Rattle.runner.specs.Entries.{TakesKill, TakesOutside}
use Rattle.runner.specs.Logs.{Runs, cost, event_cost, opening}
use Rattle.runner.specs.Orders.{HasMade}
use Rattle.runner.specs.Reports.{IsHeldUp, PassesLimit}
use Rattle.runner.specs.Seeds.{DrawsTo, EndsBehind, IsDraw, IsMade, IsOver, IsPassedOver, MakesDrawn, Moment}
use Rattle.runner.specs.Seeds.{OneLogBySeedSo, StopsSo, first_moment, numbers_from, outside_by}
use Rattle.runner.specs.Views.{LogState}
use Rattle.runner.proofs.Once.{runs_once}
use Rattle.runner.proofs.OneLog.{first_within, next_once, not_stopped}

-- a thread makes one entry
made_once : (p : Program) (t : ℕ) (h a b : LogState) → HasMade p t h a → HasMade p t h b → a.log ≡ b.log
made_once p t h a b (e, te, me, ne, ge) (f, tf, mf, nf, gf) =
    let same = next_once p h.concrete t e.local f.local e.event f.event ne nf in
    let thread : e.thread ≡ f.thread = te ∙ sym tf in
    let entry : e ≡ f = λ i. record { thread = thread i; local = same.0 i; event = same.1 i } in
    ge ∙ ap (λ (x : Entry). h.log ++ x ∷ []) entry ∙ sym gf

-- and then it isn't stopped
made_or_stopped : (p : Program) (limit t : ℕ) (h a : LogState) (refused refused' : ℕ → Bool) → HasMade p t h a
    → cost a.log ≤ limit → StopsSo p limit h t refused refused' → ⊥
made_or_stopped p limit t h a refused refused' (e, te, me, ne, ge) within stops =
    not_stopped p limit h.log h.concrete t e.local e.event ne
    (first_within limit h.log [] e (subst (λ (l : List Entry). cost l ≤ limit) ge within)) (by stops)
  where
    by : StopsSo p limit h t refused refused' → PassesLimit p limit h.log h.concrete t ⊎ IsHeldUp p h.concrete t
    by (inl passes) = inl passes.0
    by (inr held) = inr held.0

-- an entry that would pass the limit isn't held up
passes_or_held : (p : Program) (limit t : ℕ) (h : LogState) → PassesLimit p limit h.log h.concrete t
    → IsHeldUp p h.concrete t → ⊥
passes_or_held p limit t h passes held =
    not_stopped p (cost h.log + (passes.count + event_cost passes.event)) h.log h.concrete t passes.count passes.event
    passes.entry (omega arith) (inr held)

stops_once : (p : Program) (limit t : ℕ) (h : LogState) (refused a b : ℕ → Bool) → StopsSo p limit h t refused a
    → StopsSo p limit h t refused b → a ≡ b
stops_once p limit t h refused a b (inl x) (inl y) = x.1 ∙ sym y.1
stops_once p limit t h refused a b (inl x) (inr y) = absurd (passes_or_held p limit t h x.0 y.0)
stops_once p limit t h refused a b (inr x) (inl y) = absurd (passes_or_held p limit t h y.0 x.0)
stops_once p limit t h refused a b (inr x) (inr y) = x.1 ∙ sym y.1

-- what comes from outside has one event
inside : (x y : PieceConcrete × Event)
    → (let R : Type 0 = Result (PieceConcrete × Event) StepFault in
    (let a : R = Ok x in a) ≡ (let b : R = Ok y in b)) → x ≡ y
inside x y h = cc

wakes_once : (limit t : ℕ) (h a b : LogState) → TakesOutside limit h t a → TakesOutside limit h t b → a.log ≡ b.log
wakes_once limit t h a b x y =
    let same : x.event ≡ y.event =
    ap (λ (q : PieceConcrete × Event). q.1) (inside (a.concrete, x.event) (b.concrete, y.event) (sym x.gives ∙ y.gives)) in
    x.log ∙ ap (λ (e : Event). h.log ++ record { thread = t; local = 0; event = Some e } ∷ []) same ∙ sym y.log

kills_once : (p : Program) (limit t : ℕ) (h a b : LogState) → TakesKill p limit h t a → TakesKill p limit h t b
    → a.log ≡ b.log
kills_once p limit t h a b x y =
    let same : x.event ≡ y.event =
    ap (λ (q : PieceConcrete × Event). q.1) (inside (a.concrete, x.event) (b.concrete, y.event) (sym x.gives ∙ y.gives)) in
    x.log ∙ ap (λ (e : Event). h.log ++ record { thread = t; local = 0; event = Some e } ∷ []) same ∙ sym y.log

makes_once : (p : Program) (limit : ℕ) (h : LogState) (d : Drawn) (a b : LogState) → MakesDrawn p limit h d a
    → MakesDrawn p limit h d b → a.log ≡ b.log
makes_once p limit h (Mover t) a b x y = made_once p t h a b x.0 y.0
makes_once p limit h (Sleeper t) a b x y = wakes_once limit t h a b x y
makes_once p limit h (Living t) a b x y = kills_once p limit t h a b x y

-- one that was drawn makes its entry or is passed over
makes_or_passed : (p : Program) (limit : ℕ) (m a b : Moment) (d : Drawn) → IsMade p limit m d a
    → IsPassedOver p limit m d b → ⊥
makes_or_passed p limit m a b (Mover t) x y =
    made_or_stopped p limit t m.state a.state m.refused b.refused x.makes.0 x.makes.1 y.0
makes_or_passed p limit m a b (Sleeper t) x y = y
makes_or_passed p limit m a b (Living t) x y = y

-- what comes of a draw: the log, who is refused, and who is passed over
record AreAlike (a b : Moment) : Type 0 where
  pub log : a.state.log ≡ b.state.log
  pub refused : a.refused ≡ b.refused
  pub passed : a.passed ≡ b.passed

passed_once : (p : Program) (limit : ℕ) (m a b : Moment) (d : Drawn) → IsPassedOver p limit m d a
    → IsPassedOver p limit m d b → AreAlike a b
passed_once p limit m a b (Mover t) x y = record {
  log = ap (λ (h : LogState). h.log) (x.1 ∙ sym y.1);
  refused = stops_once p limit t m.state m.refused a.refused b.refused x.0 y.0;
  passed = x.2 ∙ sym y.2;
}
passed_once p limit m a b (Sleeper t) x y = absurd x
passed_once p limit m a b (Living t) x y = absurd x

comes_once : (p : Program) (limit : ℕ) (m a b : Moment) (d : Drawn)
    → IsMade p limit m d a ⊎ IsPassedOver p limit m d a → IsMade p limit m d b ⊎ IsPassedOver p limit m d b → AreAlike a b
comes_once p limit m a b d (inl x) (inl y) = record {
  log = makes_once p limit m.state d a.state b.state x.makes y.makes;
  refused = x.refused ∙ sym y.refused;
  passed = x.passed ∙ sym y.passed;
}
comes_once p limit m a b d (inl x) (inr y) = absurd (makes_or_passed p limit m a b d x y)
comes_once p limit m a b d (inr x) (inl y) = absurd (makes_or_passed p limit m b a d y x)
comes_once p limit m a b d (inr x) (inr y) = passed_once p limit m a b d x y

-- where a log leads is one state, so that a draw leads to one moment
one_moment : (p : Program) (a b : Moment) → Runs p (opening p) a.state.log a.state.concrete
    → Runs p (opening p) b.state.log b.state.concrete → a.numbers ≡ b.numbers → AreAlike a b → a ≡ b
one_moment p a b leads leads' numbers same =
    let concrete : a.state.concrete ≡ b.state.concrete =
    runs_once p (opening p) a.state.concrete b.state.concrete b.state.log
    (subst (λ (l : List Entry). Runs p (opening p) l a.state.concrete) same.log leads) leads' in
    λ i. record {
      state = record { log = same.log i; concrete = concrete i };
      numbers = numbers i;
      refused = same.refused i;
      passed = same.passed i;
    }

one_drawn : (x y : Drawn) → (let a : Option Drawn = Some x in a) ≡ (let b : Option Drawn = Some y in b) → x ≡ y
one_drawn x y h = cc

draw_once : (p : Program) (outside : Outside) (limit : ℕ) (m a b : Moment)
    → Runs p (opening p) a.state.log a.state.concrete → Runs p (opening p) b.state.log b.state.concrete
    → IsDraw p outside limit m a → IsDraw p outside limit m b → a ≡ b
draw_once p outside limit m a b leads leads' x y =
    let both : (Some x.drawn, a.numbers) ≡ (Some y.drawn, b.numbers) = x.draws ∙ sym y.draws in
    let drawn = one_drawn x.drawn y.drawn (ap (λ (q : Option Drawn × Stream). q.0) both) in
    one_moment p a b leads leads' (ap (λ (q : Option Drawn × Stream). q.1) both)
    (comes_once p limit m a b y.drawn
    (subst (λ (d : Drawn). IsMade p limit m d a ⊎ IsPassedOver p limit m d a) drawn x.comes) y.comes)

-- so many draws lead to one moment
draws_once : (p : Program) (outside : Outside) (limit n : ℕ) (m a b : Moment)
    → Runs p (opening p) a.state.log a.state.concrete → Runs p (opening p) b.state.log b.state.concrete
    → DrawsTo p outside limit n m a → DrawsTo p outside limit n m b → a ≡ b
draws_once p outside limit zero m a b leads leads' x y = x ∙ sym y
draws_once p outside limit (suc n) m a b leads leads' (mid, x, d) (mid', x', d') =
    let same : mid' ≡ mid = draws_once p outside limit n m mid' mid d'.leads d.leads x' x in
    draw_once p outside limit mid a b leads leads' d (subst (λ (q : Moment). IsDraw p outside limit q b) same d')

-- of more draws than so many the next one
next_draw : (p : Program) (outside : Outside) (limit n k : ℕ) (m last : Moment) → n < k → DrawsTo p outside limit k m last
    → (mid : Moment) × (next : Moment) × DrawsTo p outside limit n m mid × IsDraw p outside limit mid next
next_draw p outside limit n zero m last less draws = absurd (omega (arith, less))
next_draw p outside limit n (suc k) m last less (mid, before, draw) = elim (cases_eq n k) [
  | inl here ↦ (mid, last, subst (λ (j : ℕ). DrawsTo p outside limit j m mid) (sym here) before, draw)
  | inr other ↦ next_draw p outside limit n k m mid (omega (arith, less, other)) before
]

over_or_drawn : (p : Program) (outside : Outside) (limit : ℕ) (m next : Moment) → IsOver outside limit m
    → IsDraw p outside limit m next → ⊥
over_or_drawn p outside limit m next over draw =
    some_or_none draw.drawn (ap (λ (q : Option Drawn × Stream). q.0) draw.draws ∙ over)
  where
    some_or_none : (d : Drawn) → (let a : Option Drawn = Some d in a) ≡ (let b : Option Drawn = None in b) → ⊥
    some_or_none d h = cc

-- behind a moment at which nothing is drawn there is no other
none_behind : (p : Program) (outside : Outside) (limit : ℕ) (m : Moment) (log log' : List Entry)
    → (x : EndsBehind p outside limit m log) → (y : EndsBehind p outside limit m log') → x.count < y.count → ⊥
none_behind p outside limit m log log' x y less =
    let d = next_draw p outside limit x.count y.count m y.last less y.draws in
    let same : x.last ≡ d.0 = draws_once p outside limit x.count m x.last d.0 x.leads d.3.leads x.draws d.2 in
    over_or_drawn p outside limit d.0 d.1 (subst (λ (q : Moment). IsOver outside limit q) same x.over) d.3

ends_once : (p : Program) (outside : Outside) (limit : ℕ) (m : Moment) (log log' : List Entry)
    → EndsBehind p outside limit m log → EndsBehind p outside limit m log' → log ≡ log'
ends_once p outside limit m log log' x y = elim (cases_lt x.count y.count) [
  | inl less ↦ absurd (none_behind p outside limit m log log' x y less)
  | inr past ↦ elim (cases_lt y.count x.count) [
    | inl more ↦ absurd (none_behind p outside limit m log' log y x more)
    | inr at ↦ alike (omega (arith, past, at))
  ]
]
  where
    alike : x.count ≡ y.count → log ≡ log'
    alike same =
        let draws : DrawsTo p outside limit y.count m x.last =
        subst (λ (n : ℕ). DrawsTo p outside limit n m x.last) same x.draws in
        let last : x.last ≡ y.last = draws_once p outside limit y.count m x.last y.last x.leads y.leads draws y.draws in
        x.log_is ∙ ap (λ (q : Moment). q.state.log) last ∙ sym y.log_is

pub one_by_seed : OneLogBySeedSo
one_by_seed p strays kills limit seed log log' x y =
    let begun = outside_by strays kills (numbers_from seed) in
    ends_once p begun.0 limit (first_moment p begun.1) log log' x y
