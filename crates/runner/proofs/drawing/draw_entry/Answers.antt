use Rattle.std.proofs.Common.{◌≡◌, ℕ, List, length, ap, arith, sym, ◌∙◌, subst}
use Rattle.std.specs.List.{Contains}
use Rattle.std.proofs.lemmas.Bool.{eqb-false, eqb-true}
use Rattle.std.proofs.lemmas.List.Elements.{All-contains}
use Rattle.machine.specs.States.{ConcreteState}
use Rattle.machine.specs.Views.{concrete}
use Rattle.runner.specs.Rounds.{IsDrawn}
use Rattle.runner.specs.Seeds.{marked, moment_of, movers_of, numbers_from, picked}
use Rattle.runner.specs.Views.{log_state}
use Rattle.runner.proofs.Seeding.{among_living, among_mover, among_none, among_sleeper, listed_there}
use Rattle.runner.proofs.drawing.draw_entry.Goals as goal

pub list_movers-requires-clause-few : goal.list_movers-requires-clause-few
list_movers-requires-clause-few g c =
    let fit = c.machine.ensures.fit in
    let same : length (concrete c.machine.result.now).threads
    ≡ length (log_state c.args.shared.now).concrete.concrete.threads =
    ap (λ (k : ConcreteState). length k.threads) c.machine.ensures.concrete in
    omega (arith, same, fit.well.few, fit.well.fits)

pub returns-in-Some-clause-drawn : goal.returns-in-Some-clause-drawn
returns-in-Some-clause-drawn g c =
    let e = c.in-Some.ensures.may in (sym c.requires.strays ∙ e.0, e.1, e.2)

pub returns-clause-drawn : goal.returns-clause-drawn
returns-clause-drawn g c =
    subst (λ (k : ConcreteState). IsDrawn k c.args.refused.now c.args.passed.now c.pick.result) c.machine.ensures.concrete
    (All-contains (IsDrawn (concrete c.machine.result.now) c.args.refused.now c.args.passed.now) c.list_movers.new.movers.items
    c.pick.result c.list_movers.ensures.drawn
    (subst (λ (xs : List ℕ). Contains xs c.pick.result) c.deref.ensures.0 c.pick.ensures.among))

pub returns-then-is_empty-clause-draws : goal.returns-then-is_empty-clause-draws
returns-then-is_empty-clause-draws g c =
    let h = log_state c.args.shared.now in
    let refused = c.args.refused.now in
    let passed = c.args.passed.now in
    among_none c.args.outside g.J.RunName.limit (moment_of h (numbers_from c.args.generator.now) refused passed)
    c.list_movers.new.movers.items
    (eqb-true (length c.list_movers.new.movers.items) 0 (sym c.if-is_empty.ensures))
    (listed_there (λ (k : ConcreteState). movers_of k (marked refused) (marked passed)) (concrete c.machine.result.now)
    h.concrete.concrete c.list_movers.new.movers.items c.list_movers.ensures.all c.machine.ensures.concrete)

pub returns-in-Some-clause-draws : goal.returns-in-Some-clause-draws
returns-in-Some-clause-draws g c =
    let h = log_state c.args.shared.now in
    let refused = c.args.refused.now in
    let passed = c.args.passed.now in
    let some = eqb-false (length c.list_movers.new.movers.items) 0 (sym c.if-is_empty.ensures) in
    among_sleeper c.args.outside g.J.RunName.limit (moment_of h (numbers_from c.args.generator.now) refused passed)
    c.list_movers.new.movers.items c.in-Some.t (numbers_from c.draw_sleeper.new.generator) (omega (arith, some))
    (listed_there (λ (k : ConcreteState). movers_of k (marked refused) (marked passed)) (concrete c.machine.result.now)
    h.concrete.concrete c.list_movers.new.movers.items c.list_movers.ensures.all c.machine.ensures.concrete)
    c.in-Some.ensures.drawn

pub returns-in-Some-draw_living-clause-draws : goal.returns-in-Some-draw_living-clause-draws
returns-in-Some-draw_living-clause-draws g c =
    let h = log_state c.args.shared.now in
    let refused = c.args.refused.now in
    let passed = c.args.passed.now in
    let some = eqb-false (length c.list_movers.new.movers.items) 0 (sym c.if-is_empty.ensures) in
    among_living c.args.outside g.J.RunName.limit (moment_of h (numbers_from c.args.generator.now) refused passed)
    c.list_movers.new.movers.items c.in-Some-draw_living.t (numbers_from c.draw_sleeper.new.generator)
    (numbers_from c.draw_living.new.generator) (omega (arith, some))
    (listed_there (λ (k : ConcreteState). movers_of k (marked refused) (marked passed)) (concrete c.machine.result.now)
    h.concrete.concrete c.list_movers.new.movers.items c.list_movers.ensures.all c.machine.ensures.concrete)
    c.in_default.ensures.drawn c.in-Some-draw_living.ensures.drawn

pub returns-clause-draws : goal.returns-clause-draws
returns-clause-draws g c =
    let h = log_state c.args.shared.now in
    let refused = c.args.refused.now in
    let passed = c.args.passed.now in
    let some = eqb-false (length c.list_movers.new.movers.items) 0 (sym c.if-is_empty.ensures) in
    among_mover c.args.outside g.J.RunName.limit (moment_of h (numbers_from c.args.generator.now) refused passed)
    c.list_movers.new.movers.items c.pick.result (numbers_from c.draw_sleeper.new.generator)
    (numbers_from c.draw_living.new.generator) (numbers_from c.pick.new.generator) (omega (arith, some))
    (listed_there (λ (k : ConcreteState). movers_of k (marked refused) (marked passed)) (concrete c.machine.result.now)
    h.concrete.concrete c.list_movers.new.movers.items c.list_movers.ensures.all c.machine.ensures.concrete)
    c.in_default.ensures.drawn c.in_default-draw_living.ensures.drawn
    (c.pick.ensures.drawn
    ∙ ap (λ (xs : List ℕ). picked xs (numbers_from c.draw_living.new.generator)) c.deref.ensures.0)
