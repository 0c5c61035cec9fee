use Rattle.std.proofs.Common.{◌≡◌, ◌<◌, ◌∙◌, List, ℕ, arith, length, sym, subst}
use Rattle.std.specs.Prelude.{◌&&◌, nat_lt}
use Rattle.std.proofs.lemmas.Bool.{eqb-false, eqb-true, lt-ltb}
use Rattle.machine.specs.Views.{concrete}
use Rattle.runner.specs.Logs.{cost}
use Rattle.runner.specs.Seeds.{numbers_from, picked, sleepers_of, stray_due}
use Rattle.runner.specs.Views.{log_state}
use Rattle.runner.proofs.Seeding.{and_both, and_first, and_second, below_so, listed_there, picked_none}
use Rattle.runner.proofs.Seeding.{picked_not, picked_one}
use Rattle.runner.proofs.drawing.draw_sleeper.Goals as goal

pub returns-then-not-is_due-clause-drawn : goal.returns-then-not-is_due-clause-drawn
returns-then-not-is_due-clause-drawn g c =
    let h = log_state c.args.shared.now in
    let due = stray_due c.args.strays (numbers_from c.args.generator.now) in
    let room = nat_lt (cost h.log) g.J.RunName.limit in
    picked_not (due.0 && room) (sleepers_of h.concrete.concrete) due.1 (numbers_from c.is_due.new.generator)
    (and_first due.0 room (sym c.if-not-is_due.ensures.due)) c.is_due.ensures.rest

pub returns-then-not-has_step_left-clause-drawn : goal.returns-then-not-has_step_left-clause-drawn
returns-then-not-has_step_left-clause-drawn g c =
    let h = log_state c.args.shared.now in
    let due = stray_due c.args.strays (numbers_from c.args.generator.now) in
    let room = nat_lt (cost h.log) g.J.RunName.limit in
    let full = c.if-not-has_step_left.ensures in
    picked_not (due.0 && room) (sleepers_of h.concrete.concrete) due.1 (numbers_from c.is_due.new.generator)
    (and_second due.0 room (below_so (cost h.log) g.J.RunName.limit (omega (arith, full)))) c.is_due.ensures.rest

pub returns-then-is_empty-clause-drawn : goal.returns-then-is_empty-clause-drawn
returns-then-is_empty-clause-drawn g c =
    let h = log_state c.args.shared.now in
    let due = stray_due c.args.strays (numbers_from c.args.generator.now) in
    let room = nat_lt (cost h.log) g.J.RunName.limit in
    let all = listed_there sleepers_of (concrete c.machine.result.now) h.concrete.concrete c.list_sleepers.new.sleepers.items
    c.list_sleepers.ensures.all c.machine.ensures.concrete in
    picked_none (due.0 && room) (sleepers_of h.concrete.concrete) c.list_sleepers.new.sleepers.items due.1
    (numbers_from c.is_due.new.generator) all
    (eqb-true (length c.list_sleepers.new.sleepers.items) 0 (sym c.if-is_empty.ensures)) c.is_due.ensures.rest

pub returns-clause-drawn : goal.returns-clause-drawn
returns-clause-drawn g c =
    let h = log_state c.args.shared.now in
    let due = stray_due c.args.strays (numbers_from c.args.generator.now) in
    let room = nat_lt (cost h.log) g.J.RunName.limit in
    let all = listed_there sleepers_of (concrete c.machine.result.now) h.concrete.concrete c.list_sleepers.new.sleepers.items
    c.list_sleepers.ensures.all c.machine.ensures.concrete in
    let items : c.deref.result.now ≡ sleepers_of h.concrete.concrete = c.deref.ensures.0 ∙ all in
    let left = c.if-not-has_step_left.ensures in
    let some = eqb-false (length c.list_sleepers.new.sleepers.items) 0 (sym c.if-is_empty.ensures) in
    picked_one (due.0 && room) (sleepers_of h.concrete.concrete) c.pick.result due.1 (numbers_from c.pick.new.generator)
    (and_both due.0 room (sym c.if-not-is_due.ensures.due) (lt-ltb (cost h.log) g.J.RunName.limit left))
    (subst (λ (xs : List ℕ). 0 < length xs) all (omega (arith, some)))
    (c.pick.ensures.drawn ∙ (λ i. picked (items i) (c.is_due.ensures.rest i)))
