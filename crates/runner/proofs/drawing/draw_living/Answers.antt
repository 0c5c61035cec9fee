use Rattle.std.proofs.Common.{◌≡◌, ◌<◌, ◌∙◌, List, ℕ, arith, length, sym, subst}
use Rattle.std.specs.Prelude.{◌&&◌, nat_lt}
use Rattle.std.proofs.lemmas.Bool.{eqb-false, eqb-true, lt-ltb}
use Rattle.machine.specs.States.{ConcreteState}
use Rattle.machine.specs.Views.{concrete}
use Rattle.runner.specs.Logs.{cost, kills_in}
use Rattle.runner.specs.Seeds.{behind, kill_due, living_of, marked, next_of, numbers_from, picked}
use Rattle.runner.specs.Views.{log_state}
use Rattle.runner.proofs.Seeding.{and_both, and_first, and_second, below_so, listed_there, living_may, living_no_more}
use Rattle.runner.proofs.Seeding.{picked_none}
use Rattle.runner.proofs.Seeding.{picked_not, picked_one}
use Rattle.runner.proofs.drawing.draw_living.Goals as goal

pub returns-then-kills-outside-clause-drawn : goal.returns-then-kills-outside-clause-drawn
returns-then-kills-outside-clause-drawn g c =
    let h = log_state c.args.shared.now in
    let before = numbers_from c.args.generator.now in
    let many = c.kills.ensures.value in
    let full = c.if-kills-outside.true in
    living_no_more c.args.outside g.J.RunName.limit h (marked c.args.refused.now) before
    (below_so (kills_in h.log) c.args.outside.kills (omega (arith, many, full)))

pub returns-then-not-is_kill_due-clause-drawn : goal.returns-then-not-is_kill_due-clause-drawn
returns-then-not-is_kill_due-clause-drawn g c =
    let h = log_state c.args.shared.now in
    let before = numbers_from c.args.generator.now in
    let limit = g.J.RunName.limit in
    let due = kill_due c.args.outside.doublings (next_of before) in
    let room = nat_lt (cost h.log) limit in
    let refused = marked c.args.refused.now in
    let many = c.kills.ensures.value in
    let more = c.if-kills-outside.false in
    picked_not (due && room) (living_of h.concrete.concrete refused) (behind before) (numbers_from c.is_kill_due.new.generator)
    (and_first due room (sym c.if-not-is_kill_due.ensures.due)) c.is_kill_due.ensures.rest
    ∙ sym (living_may c.args.outside limit h refused before
    (lt-ltb (kills_in h.log) c.args.outside.kills (omega (arith, many, more))))

pub returns-then-not-has_step_left-clause-drawn : goal.returns-then-not-has_step_left-clause-drawn
returns-then-not-has_step_left-clause-drawn g c =
    let h = log_state c.args.shared.now in
    let before = numbers_from c.args.generator.now in
    let limit = g.J.RunName.limit in
    let due = kill_due c.args.outside.doublings (next_of before) in
    let room = nat_lt (cost h.log) limit in
    let refused = marked c.args.refused.now in
    let many = c.kills.ensures.value in
    let more = c.if-kills-outside.false in
    let full = c.if-not-has_step_left.ensures in
    picked_not (due && room) (living_of h.concrete.concrete refused) (behind before) (numbers_from c.is_kill_due.new.generator)
    (and_second due room (below_so (cost h.log) limit (omega (arith, full)))) c.is_kill_due.ensures.rest
    ∙ sym (living_may c.args.outside limit h refused before
    (lt-ltb (kills_in h.log) c.args.outside.kills (omega (arith, many, more))))

pub returns-then-is_empty-clause-drawn : goal.returns-then-is_empty-clause-drawn
returns-then-is_empty-clause-drawn g c =
    let h = log_state c.args.shared.now in
    let before = numbers_from c.args.generator.now in
    let limit = g.J.RunName.limit in
    let due = kill_due c.args.outside.doublings (next_of before) in
    let room = nat_lt (cost h.log) limit in
    let refused = marked c.args.refused.now in
    let many = c.kills.ensures.value in
    let more = c.if-kills-outside.false in
    let all = listed_there (λ (k : ConcreteState). living_of k refused) (concrete c.machine.result.now) h.concrete.concrete c.list_living.new.living.items
    c.list_living.ensures.all c.machine.ensures.concrete in
    picked_none (due && room) (living_of h.concrete.concrete refused) c.list_living.new.living.items (behind before)
    (numbers_from c.is_kill_due.new.generator) all
    (eqb-true (length c.list_living.new.living.items) 0 (sym c.if-is_empty.ensures)) c.is_kill_due.ensures.rest
    ∙ sym (living_may c.args.outside limit h refused before
    (lt-ltb (kills_in h.log) c.args.outside.kills (omega (arith, many, more))))

pub returns-clause-drawn : goal.returns-clause-drawn
returns-clause-drawn g c =
    let h = log_state c.args.shared.now in
    let before = numbers_from c.args.generator.now in
    let limit = g.J.RunName.limit in
    let due = kill_due c.args.outside.doublings (next_of before) in
    let room = nat_lt (cost h.log) limit in
    let refused = marked c.args.refused.now in
    let many = c.kills.ensures.value in
    let more = c.if-kills-outside.false in
    let all = listed_there (λ (k : ConcreteState). living_of k refused) (concrete c.machine.result.now) h.concrete.concrete c.list_living.new.living.items
    c.list_living.ensures.all c.machine.ensures.concrete in
    let items : c.deref.result.now ≡ living_of h.concrete.concrete refused = c.deref.ensures.0 ∙ all in
    let left = c.if-not-has_step_left.ensures in
    let some = eqb-false (length c.list_living.new.living.items) 0 (sym c.if-is_empty.ensures) in
    picked_one (due && room) (living_of h.concrete.concrete refused) c.pick.result (behind before)
    (numbers_from c.pick.new.generator)
    (and_both due room (sym c.if-not-is_kill_due.ensures.due) (lt-ltb (cost h.log) limit left))
    (subst (λ (xs : List ℕ). 0 < length xs) all (omega (arith, some)))
    (c.pick.ensures.drawn ∙ (λ i. picked (items i) (c.is_kill_due.ensures.rest i)))
    ∙ sym (living_may c.args.outside limit h refused before
    (lt-ltb (kills_in h.log) c.args.outside.kills (omega (arith, many, more))))
