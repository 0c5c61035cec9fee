use Rattle.std.proofs.Common.{◌≡◌, ◌∙◌, ◌⊎◌, ◌-◌, ◌++◌, List, [], ◌∷◌, arith, ap, inl, inr, length, subst, sym}
use Rattle.std.specs.Prelude.{ℕ, suc, Some, true, slice_get, if◌then◌else◌}
use Rattle.std.specs.List.{All}
use Rattle.std.proofs.lemmas.Bool.{cases_eq}
use Rattle.std.proofs.lemmas.List.Elements.{All-nil}
use Rattle.machine.specs.ConcreteSteps.{can_move}
use Rattle.machine.specs.Views.{concrete}
use Rattle.runner.specs.Rounds.{IsDrawn}
use Rattle.runner.specs.Seeds.{is_mover, marked, those}
use Rattle.runner.proofs.Passing.{all_from, made_within, mover_some, up_to}
use Rattle.runner.proofs.Seeding.{movers_begun, movers_over, no_mover, those_least}
use Rattle.runner.proofs.drawing.list_movers.Goals as goal

pub loop-t-init : goal.loop-t-init
loop-t-init c =
    let k = concrete c.args.machine.now in
    let refused = c.args.refused.now in
    let passed = c.args.passed.now in
    let empty = c.clear.ensures in
    record {
      from_one = omega arith;
      within = omega arith;
      drawn = subst (λ (xs : List ℕ). All (IsDrawn k refused passed) xs) (sym empty) (All-nil (IsDrawn k refused passed));
      few = omega (arith, ap length empty);
      none = λ none u less moves. absurd (omega (arith, mover_some k u moves, less));
      made = omega arith;
      all = λ n is. movers_begun (is_mover k (marked refused) (marked passed)) n _ empty (omega (arith, is));
    }

pub loop-t-preserved : goal.loop-t-preserved
loop-t-preserved c =
    let v = c.loop-t.invariant in
    let e = c.add_pickable.ensures in
    let t = c.in-Some.t in
    let least = c.in-Some.ensures in
    let made = made_within (concrete c.args.machine.now) t least.1 in
    let refuses = (λ (u : ℕ). (slice_get c.args.refused.now u ≡ Some true) ⊎ (slice_get c.args.passed.now u ≡ Some true)) in
    record {
      from_one = omega arith;
      within = omega (arith, made, c.requires.few);
      drawn = e.drawn v.drawn;
      few = omega (arith, v.few, e.few, least.0);
      none = λ empty u within moves. elim (cases_eq u t) [
        | inl here ↦ subst refuses (sym here)
            ((e.none empty).1 (subst (λ (w : ℕ). can_move (concrete c.args.machine.now) w ≡ true) here moves))
        | inr other ↦ up_to (can_move (concrete c.args.machine.now)) c.loop-t.from t refuses (v.none (e.none empty).0) least u
            (omega (arith, within, other)) moves
      ];
      made = omega (arith, made);
      all = λ n is.
          let test = is_mover (concrete c.args.machine.now) (marked c.args.refused.now) (marked c.args.passed.now) in
          let m : ℕ = c.loop-t.from - 1 in
          let at : suc m ≡ c.loop-t.from = omega (arith, v.from_one) in
          let here : n ≡ t = omega (arith, is) in
          e.items
          ∙ ap (λ (xs : List ℕ). xs ++ (if test t then t ∷ [] else [])) (v.all m at)
          ∙ sym (those_least test m t (omega (arith, at, least.0))
          (λ u above under. no_mover (concrete c.args.machine.now) (marked c.args.refused.now) (marked c.args.passed.now) u
          (least.2 u (omega (arith, at, above)) under)))
          ∙ ap (those test) (sym here);
    }

pub loop-t-smaller : goal.loop-t-smaller
loop-t-smaller c =
    let made = made_within (concrete c.args.machine.now) c.in-Some.t c.in-Some.ensures.1 in
    omega (arith, made, c.requires.few, c.in-Some.ensures.0)

pub returns-clause-none : goal.returns-clause-none
returns-clause-none c = λ empty. all_from (can_move (concrete c.args.machine.now)) c.loop-t.from
    (λ (u : ℕ). (slice_get c.args.refused.now u ≡ Some true) ⊎ (slice_get c.args.passed.now u ≡ Some true))
    (c.loop-t.invariant.none empty) c.in_default.ensures

pub returns-clause-all : goal.returns-clause-all
returns-clause-all c =
    let v = c.loop-t.invariant in
    let m : ℕ = c.loop-t.from - 1 in
    let at : suc m ≡ c.loop-t.from = omega (arith, v.from_one) in
    v.all m at
    ∙ movers_over (concrete c.args.machine.now) (marked c.args.refused.now) (marked c.args.passed.now) m c.loop-t.from at v.made
    c.in_default.ensures
