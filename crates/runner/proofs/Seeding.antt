-- What a run by a seed draws, step by step.
use Rattle.std.proofs.Common.{◌≡◌, ◌≢◌, ℕ, zero, suc, ◌+◌, ◌%◌, ◌<◌, ◌≤◌, ◌==◌, ◌++◌, Bool, true, false, not}
use Rattle.std.proofs.Common.{List, [], ◌∷◌, length, get_or, slice_get, slice_set, Option, Some, None, inl, inr}
use Rattle.std.proofs.Common.{refl, ap, sym, ◌∙◌, arith, subst, add-one}
use Rattle.std.specs.Prelude.{◌&&◌, ◌||◌, if◌then◌else◌, nat_lt}
use Rattle.std.proofs.lemmas.Bool.{cases_eq, eq-eqb, eqb-true, ltb-true}
use Rattle.std.proofs.lemmas.List.{append-nil, get_or-set_other}
use Rattle.std.proofs.lemmas.Grind.{get_or-set_at}
use Rattle.std.proofs.lemmas.Option.{slice_get-get_or}
use Rattle.rand_core.specs.Stream.{Stream}
use Rattle.isa.specs.Programs.{Program}
use Rattle.machine.specs.declared.event.Entry.{Entry}
use Rattle.machine.specs.ConcreteSteps.{can_move}
use Rattle.machine.specs.States.{ConcreteState}
use Rattle.machine.specs.ThreadSets.{IsLeastFrom}
use Rattle.runner.specs.declared.drawing.Drawn.{Drawn}
use Rattle.runner.specs.declared.drawing.Drawn.TheVariants.{Living, Mover, Sleeper}
use Rattle.runner.specs.declared.drawing.Outside.{Outside}
use Rattle.runner.specs.Logs.{Runs, cost, kills_in, opening}
use Rattle.runner.specs.Rounds.{NobodyPassed}
use Rattle.runner.specs.Seeds.{DrawsTo, EndsBehind, HasDrawn, IsBySeed, IsDraw, IsOver, IsPassedOver, MakesDrawn, MarksSo, Moment}
use Rattle.runner.specs.Seeds.{StopsSo, and_also, begun_at, behind, drawn_among, drawn_at, is_mover, kill_due, living_drawn}
use Rattle.runner.specs.Seeds.{living_drawn_if, living_of, marked, moment_of, movers_of, next_of, nobody, numbers_from, or_else, outside_by}
use Rattle.runner.specs.Seeds.{picked, picked_if, sleeper_drawn, stray_due, those}
use Rattle.runner.specs.Views.{LogState}

-- one number more
pub those_next : (test : ℕ → Bool) (n t : ℕ) → t ≡ n + 1
    → those test t ≡ those test n ++ (if test t then t ∷ [] else [])
those_next test n t is =
    subst (λ (u : ℕ). those test u ≡ those test n ++ (if test u then u ∷ [] else [])) (sym (is ∙ add-one n)) refl

-- nobody between two numbers passes
pub those_gap : (test : ℕ → Bool) (a b : ℕ) → a ≤ b → ((u : ℕ) → a < u → u ≤ b → test u ≡ false)
    → those test b ≡ those test a
those_gap test a zero below none = let e : 0 ≡ a = omega (arith, below) in ap (those test) e
those_gap test a (suc b) below none = elim (cases_eq a (suc b)) [
  | inl here ↦ ap (those test) (sym here)
  | inr other ↦ ap (λ (x : Bool). those test b ++ (if x then suc b ∷ [] else []))
      (none (suc b) (omega (arith, below, other)) (omega arith))
      ∙ append-nil (those test b)
      ∙ those_gap test a b (omega (arith, below, other)) (λ u above under. none u above (omega (arith, under)))
]

-- nobody before a number does
pub those_least : (test : ℕ → Bool) (n t : ℕ) → n < t → ((u : ℕ) → n < u → u < t → test u ≡ false)
    → those test t ≡ those test n ++ (if test t then t ∷ [] else [])
those_least test n zero less none = absurd (omega (arith, less))
those_least test n (suc t) less none =
    ap (λ (xs : List ℕ). xs ++ (if test (suc t) then suc t ∷ [] else []))
    (those_gap test n t (omega (arith, less)) (λ u above under. none u above (omega (arith, under))))

-- who can't move isn't drawn
pub no_mover : (k : ConcreteState) (refused passed : ℕ → Bool) (t : ℕ) → can_move k t ≡ false
    → is_mover k refused passed t ≡ false
no_mover k refused passed t rests = ap (λ (b : Bool). b && not (refused t) && not (passed t)) rests

pub movers_begun : (test : ℕ → Bool) (n : ℕ) (items : List ℕ) → items ≡ [] → n ≡ 0 → items ≡ those test n
movers_begun test n items none is = none ∙ sym (ap (those test) is)

-- behind the last one that can move there is none
pub movers_over : (k : ConcreteState) (refused passed : ℕ → Bool) (n from : ℕ) → suc n ≡ from → from ≤ suc (length k.threads)
    → IsLeastFrom (can_move k) from None → those (is_mover k refused passed) n ≡ movers_of k refused passed
movers_over k refused passed n from is within none =
    sym (those_gap (is_mover k refused passed) n (length k.threads) (omega (arith, is, within))
    (λ u above under. no_mover k refused passed u (none u (omega (arith, is, above)))))

-- a list of one state is that of another that is the same
pub listed_there : (list : ConcreteState → List ℕ) (k k' : ConcreteState) (items : List ℕ) → items ≡ list k → k ≡ k'
    → items ≡ list k'
listed_there list k k' items all same = all ∙ ap list same

-- a mark more
pub marked_one : (marks : List Bool) (t : ℕ) → t < length marks → marked (slice_set marks t true) ≡ and_also (marked marks) t
marked_one marks t within = λ i. λ u. at u i
  where
    not_equal : (u : ℕ) (b : Bool) → (u == t) ≡ b → (u ≡ t → ⊥) → b ≡ false
    not_equal u true is other = absurd (other (eqb-true u t is))
    not_equal u false is other = refl

    at : (u : ℕ) → marked (slice_set marks t true) u ≡ and_also (marked marks) t u
    at u = elim (cases_eq u t) [
      | inl here ↦ get_or-set_at marks t u true false here within
          ∙ sym (ap (λ (b : Bool). b || marked marks u) (eq-eqb u t here))
      | inr other ↦ get_or-set_other marks t u true false other
          ∙ sym (ap (λ (b : Bool). b || marked marks u) (not_equal u (u == t) refl other))
    ]

-- no mark
unmarked : (marks : List Bool) (u : ℕ) → slice_get marks u ≢ Some true → marked marks u ≡ false
unmarked [] u none = refl
unmarked (true ∷ xs) zero none = absurd (none refl)
unmarked (false ∷ xs) zero none = refl
unmarked (x ∷ xs) (suc u) none = unmarked xs u none

pub marked_none : (marks : List Bool) → NobodyPassed marks → marked marks ≡ nobody
marked_none marks none = λ i. λ u. unmarked marks u (none u) i

-- which thread a number picks
pub picked_so : (threads : List ℕ) (before after : Stream) (n t : ℕ) → n ≡ next_of before → after ≡ behind before
    → 0 < length threads → t ≡ get_or threads (n % length threads) 0 → (Some t, after) ≡ picked threads before
picked_so threads before after n t number rest some is =
    let at : slice_get threads (n % length threads) ≡ Some (get_or threads (n % length threads) 0) =
    slice_get-get_or threads (n % length threads) 0 (omega (arith, some)) in
    let same : Some t ≡ slice_get threads (next_of before % length threads) =
    ap Some is ∙ sym at ∙ ap (λ (m : ℕ). slice_get threads (m % length threads)) number in
    λ i. (same i, rest i)

-- where it isn't to be drawn, and where there are none
pub picked_not : (b : Bool) (threads : List ℕ) (before after : Stream) → b ≡ false → after ≡ before
    → (None, after) ≡ picked_if b threads before
picked_not true threads before after is rest = absurd (cc is)
picked_not false threads before after is rest = λ i. (None, rest i)

pub picked_none : (b : Bool) (threads items : List ℕ) (before after : Stream) → items ≡ threads → length items ≡ 0
    → after ≡ before → (None, after) ≡ picked_if b threads before
picked_none true [] items before after same none rest = λ i. (None, rest i)
picked_none true (t ∷ ts) items before after same none rest = absurd (omega (arith, none, ap length same))
picked_none false threads items before after same none rest = λ i. (None, rest i)

pub picked_one : (b : Bool) (threads : List ℕ) (t : ℕ) (before after : Stream) → b ≡ true → 0 < length threads
    → (Some t, after) ≡ picked threads before → (Some t, after) ≡ picked_if b threads before
picked_one true [] t before after is some drawn = absurd (omega (arith, some))
picked_one true (x ∷ xs) t before after is some drawn = drawn
picked_one false threads t before after is some drawn = absurd (cc is)

pub and_first : (a b : Bool) → a ≡ false → (a && b) ≡ false
and_first true b is = absurd (cc is)
and_first false b is = refl

pub and_second : (a b : Bool) → b ≡ false → (a && b) ≡ false
and_second true b is = is
and_second false b is = refl

pub and_both : (a b : Bool) → a ≡ true → b ≡ true → (a && b) ≡ true
and_both true b is also = also
and_both false b is also = absurd (cc is)

-- a kill is drawn where there may be one more
pub living_may : (outside : Outside) (limit : ℕ) (h : LogState) (refused : ℕ → Bool) (before : Stream)
    → nat_lt (kills_in h.log) outside.kills ≡ true
    → living_drawn outside limit h refused before
    ≡ picked_if (kill_due outside.doublings (next_of before) && nat_lt (cost h.log) limit)
    (living_of h.concrete.concrete refused) (behind before)
living_may outside limit h refused before may =
    ap (λ (b : Bool). living_drawn_if b outside.doublings limit h refused before) may

pub living_no_more : (outside : Outside) (limit : ℕ) (h : LogState) (refused : ℕ → Bool) (before : Stream)
    → nat_lt (kills_in h.log) outside.kills ≡ false → (None, before) ≡ living_drawn outside limit h refused before
living_no_more outside limit h refused before full =
    sym (ap (λ (b : Bool). living_drawn_if b outside.doublings limit h refused before) full)

-- what is drawn where nobody can move, or these can
pub among_none : (outside : Outside) (limit : ℕ) (m : Moment) (movers : List ℕ) → length movers ≡ 0
    → movers ≡ movers_of m.state.concrete.concrete m.refused m.passed → (None, m.numbers) ≡ drawn_at outside limit m
among_none outside limit m [] none is =
    ap (λ (xs : List ℕ). drawn_among outside limit m.state m.refused xs m.numbers) is
among_none outside limit m (x ∷ xs) none is = absurd (omega (arith, none))

pub among_sleeper : (outside : Outside) (limit : ℕ) (m : Moment) (movers : List ℕ) (t : ℕ) (after : Stream)
    → 0 < length movers → movers ≡ movers_of m.state.concrete.concrete m.refused m.passed
    → (Some t, after) ≡ sleeper_drawn outside.strays limit m.state m.numbers
    → (Some (Sleeper t), after) ≡ drawn_at outside limit m
among_sleeper outside limit m [] t after some is drawn = absurd (omega (arith, some))
among_sleeper outside limit m (x ∷ xs) t after some is drawn =
    ap (λ (o : Option ℕ × Stream). or_else (λ u. Sleeper u) o (λ first.
    or_else (λ u. Living u) (living_drawn outside limit m.state m.refused first) (λ second.
    or_else (λ u. Mover u) (picked (x ∷ xs) second) (λ third. (None, third))))) drawn
    ∙ ap (λ (ys : List ℕ). drawn_among outside limit m.state m.refused ys m.numbers) is

pub among_living : (outside : Outside) (limit : ℕ) (m : Moment) (movers : List ℕ) (t : ℕ) (first after : Stream)
    → 0 < length movers → movers ≡ movers_of m.state.concrete.concrete m.refused m.passed
    → (None, first) ≡ sleeper_drawn outside.strays limit m.state m.numbers
    → (Some t, after) ≡ living_drawn outside limit m.state m.refused first
    → (Some (Living t), after) ≡ drawn_at outside limit m
among_living outside limit m [] t first after some is none drawn = absurd (omega (arith, some))
among_living outside limit m (x ∷ xs) t first after some is none drawn =
    ap (λ (o : Option ℕ × Stream). or_else (λ u. Living u) o (λ second.
    or_else (λ u. Mover u) (picked (x ∷ xs) second) (λ third. (None, third)))) drawn
    ∙ ap (λ (o : Option ℕ × Stream). or_else (λ u. Sleeper u) o (λ next.
    or_else (λ u. Living u) (living_drawn outside limit m.state m.refused next) (λ second.
    or_else (λ u. Mover u) (picked (x ∷ xs) second) (λ third. (None, third))))) none
    ∙ ap (λ (ys : List ℕ). drawn_among outside limit m.state m.refused ys m.numbers) is

pub among_mover : (outside : Outside) (limit : ℕ) (m : Moment) (movers : List ℕ) (t : ℕ) (first second after : Stream)
    → 0 < length movers → movers ≡ movers_of m.state.concrete.concrete m.refused m.passed
    → (None, first) ≡ sleeper_drawn outside.strays limit m.state m.numbers
    → (None, second) ≡ living_drawn outside limit m.state m.refused first
    → (Some t, after) ≡ picked movers second → (Some (Mover t), after) ≡ drawn_at outside limit m
among_mover outside limit m [] t first second after some is none none' drawn = absurd (omega (arith, some))
among_mover outside limit m (x ∷ xs) t first second after some is none none' drawn =
    ap (λ (o : Option ℕ × Stream). or_else (λ u. Mover u) o (λ third. (None, third))) drawn
    ∙ ap (λ (o : Option ℕ × Stream). or_else (λ u. Living u) o (λ next.
    or_else (λ u. Mover u) (picked (x ∷ xs) next) (λ third. (None, third)))) none'
    ∙ ap (λ (o : Option ℕ × Stream). or_else (λ u. Sleeper u) o (λ next.
    or_else (λ u. Living u) (living_drawn outside limit m.state m.refused next) (λ later.
    or_else (λ u. Mover u) (picked (x ∷ xs) later) (λ third. (None, third))))) none
    ∙ ap (λ (ys : List ℕ). drawn_among outside limit m.state m.refused ys m.numbers) is

-- marks in a list are those of its threads
pub stops_so : (p : Program) (limit : ℕ) (h : LogState) (t : ℕ) (refused refused' : List Bool) → t < length refused
    → MarksSo p limit h t refused refused' → StopsSo p limit h t (marked refused) (marked refused')
stops_so p limit h t refused refused' within (inl passes) =
    inl (passes.0, ap marked passes.1 ∙ marked_one refused t within)
stops_so p limit h t refused refused' within (inr held) = inr (held.0, ap marked held.1)

-- a draw more
pub draws_more : (p : Program) (outside : Outside) (limit : ℕ) (m mid next : Moment) → HasDrawn p outside limit m mid
    → IsDraw p outside limit mid next → HasDrawn p outside limit m next
draws_more p outside limit m mid next (n, draws) draw = (suc n, (mid, draws, draw))

draws_on : (p : Program) (outside : Outside) (limit n k : ℕ) (m mid last : Moment) → DrawsTo p outside limit n m mid
    → DrawsTo p outside limit k mid last → HasDrawn p outside limit m last
draws_on p outside limit n zero m mid last x y = (n, subst (λ (q : Moment). DrawsTo p outside limit n m q) (sym y) x)
draws_on p outside limit n (suc k) m mid last x (before, y, draw) =
    draws_more p outside limit m before last (draws_on p outside limit n k m mid before x y) draw

pub draws_both : (p : Program) (outside : Outside) (limit : ℕ) (m mid last : Moment) → HasDrawn p outside limit m mid
    → HasDrawn p outside limit mid last → HasDrawn p outside limit m last
draws_both p outside limit m mid last (n, x) (k, y) = draws_on p outside limit n k m mid last x y

-- nobody is marked yet
pub moment_begun : (h : LogState) (numbers : Stream) (refused passed : List Bool) → NobodyPassed refused → NobodyPassed passed
    → moment_of h numbers refused passed ≡ begun_at h numbers
moment_begun h numbers refused passed none none' = λ i. record {
  state = h;
  numbers = numbers;
  refused = marked_none refused none i;
  passed = marked_none passed none' i;
}

-- a draw behind which an entry was made, and one behind which none was
pub draw_made : (p : Program) (outside : Outside) (limit : ℕ) (h h' : LogState) (before after : Stream)
    (refused passed refused' passed' : List Bool) (drawn : Drawn) → Runs p (opening p) h.log h.concrete
    → (Some drawn, after) ≡ drawn_at outside limit (moment_of h before refused passed) → refused' ≡ refused
    → NobodyPassed passed' → MakesDrawn p limit h drawn h'
    → IsDraw p outside limit (moment_of h before refused passed) (moment_of h' after refused' passed')
draw_made p outside limit h h' before after refused passed refused' passed' drawn leads draws same none makes = record {
  leads = leads;
  drawn = drawn;
  draws = draws;
  comes = inl (record { makes = makes; refused = ap marked same; passed = marked_none passed' none });
}

pub draw_passed : (p : Program) (outside : Outside) (limit : ℕ) (h h' : LogState) (before after : Stream)
    (refused passed refused' passed' : List Bool) (drawn : Drawn) → Runs p (opening p) h.log h.concrete
    → (Some drawn, after) ≡ drawn_at outside limit (moment_of h before refused passed)
    → IsPassedOver p limit (moment_of h before refused passed) drawn (moment_of h' after refused' passed')
    → IsDraw p outside limit (moment_of h before refused passed) (moment_of h' after refused' passed')
draw_passed p outside limit h h' before after refused passed refused' passed' drawn leads draws over = record {
  leads = leads;
  drawn = drawn;
  draws = draws;
  comes = inr over;
}

-- nothing is drawn, and no number
pub over_so : (outside : Outside) (limit : ℕ) (h : LogState) (before after : Stream) (refused passed : List Bool)
    → (None, after) ≡ drawn_at outside limit (moment_of h before refused passed) → after ≡ before
    → IsOver outside limit (moment_of h after refused passed)
over_so outside limit h before after refused passed draws rest =
    subst (λ (s : Stream). IsOver outside limit (moment_of h s refused passed)) (sym rest)
    (sym (ap (λ (o : Option Drawn × Stream). o.0) draws))

pub drawn_still : (p : Program) (outside : Outside) (limit : ℕ) (m : Moment) (h : LogState) (before after : Stream)
    (refused passed : List Bool) → after ≡ before → HasDrawn p outside limit m (moment_of h before refused passed)
    → HasDrawn p outside limit m (moment_of h after refused passed)
drawn_still p outside limit m h before after refused passed rest draws =
    subst (λ (s : Stream). HasDrawn p outside limit m (moment_of h s refused passed)) (sym rest) draws

-- what may come from outside, where there may be no kills, and where there may be
pub begun_none : (strays : Option ℕ) (kills : ℕ) (numbers : Stream) → kills ≡ 0
    → (let outside : Outside = record { strays = strays; kills = kills; doublings = 0 } in (outside, numbers))
    ≡ outside_by strays kills numbers
begun_none strays zero numbers none = refl
begun_none strays (suc n) numbers none = absurd (omega (arith, none))

pub begun_some : (strays : Option ℕ) (kills n : ℕ) (before after : Stream) → (kills ≡ 0 → ⊥) → n ≡ next_of before
    → after ≡ behind before
    → (let outside : Outside = record { strays = strays; kills = kills; doublings = 1 + n % 12 } in (outside, after))
    ≡ outside_by strays kills before
begun_some strays zero n before after some number rest = absurd (some refl)
begun_some strays (suc k) n before after some number rest =
    λ i. (record { strays = strays; kills = suc k; doublings = 1 + number i % 12 }, rest i)

-- a wake is due where the next number is a multiple
pub due_some : (n : ℕ) (numbers : Stream) → (n ≡ 0 → ⊥)
    → stray_due (Some n) numbers ≡ (next_of numbers % n == 0, behind numbers)
due_some zero numbers some = absurd (some refl)
due_some (suc n) numbers some = refl

-- a whole run
pub seeded_so : (p : Program) (strays : Option ℕ) (kills limit seed : ℕ) (log : List Entry) (outside : Outside)
    (first numbers : Stream) (h : LogState) → first ≡ numbers_from seed
    → (outside, numbers) ≡ outside_by strays kills first → h.log ≡ [] → h.concrete ≡ opening p
    → EndsBehind p outside limit (begun_at h numbers) log → IsBySeed p strays kills limit seed log
seeded_so p strays kills limit seed log outside first numbers h state begun none opens ends =
    let whole : h ≡ record { log = []; concrete = opening p } = λ i. record { log = none i; concrete = opens i } in
    subst (λ (q : LogState). EndsBehind p (outside_by strays kills (numbers_from seed)).0 limit
    (begun_at q (outside_by strays kills (numbers_from seed)).1) log) whole
    (subst (λ (s : Stream). EndsBehind p (outside_by strays kills s).0 limit (begun_at h (outside_by strays kills s).1) log)
    state
    (subst (λ (q : Outside × Stream). EndsBehind p q.0 limit (begun_at h q.1) log) begun ends))

-- which thread a draw is of
pub below_so : (a b : ℕ) → b ≤ a → nat_lt a b ≡ false
below_so a b at = by (nat_lt a b) refl
  where
    by : (c : Bool) → nat_lt a b ≡ c → c ≡ false
    by true is = let less = ltb-true a b is in absurd (omega (arith, at, less))
    by false is = refl
