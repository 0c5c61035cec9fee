use Rattle.std.proofs.Common.{◌+◌, List, length, ap, arith}
use Rattle.std.proofs.lemmas.Iterator.Consumers.{YieldsList-from_first, YieldsList-turn, YieldsList-end}
use Rattle.std.proofs.lemmas.List.{length_push, take_all}
use Rattle.machine.specs.declared.event.Entry.{Entry}
use Rattle.runner.specs.Logs.{cost}
use Rattle.answers.proofs.LogSteps.{first_few, one_more}
use Rattle.answers.proofs.log_limits.has_few_steps.Goals as goal

pub returns-then-steps-from-clause-many : goal.returns-then-steps-from-clause-many
returns-then-steps-from-clause-many c =
    let l = c.loop-entry in
    let entry = c.in-Some.entry in
    let turn = YieldsList-turn (YieldsList-from_first (λ (x : Entry). x) (λ (rest : List Entry). rest) c.args.entries
    c.into_iter-entry-iterator.ensures.into_iter_gives)
    l.yielded _ l.yielded_by _ _ entry c.in-Some.is c.next.ensures.steps in
    let more = one_more c.args.entries (length l.yielded) entry turn.0 turn.1 in
    let all = first_few c.args.entries (length l.yielded + 1) in
    λ _. omega (arith, more, all, l.invariant.steps, c.if-steps-from.true, c.from.ensures, c.steps_of-steps.ensures.value)

pub loop-entry-preserved : goal.loop-entry-preserved
loop-entry-preserved c =
    let l = c.loop-entry in
    let entry = c.in-Some.entry in
    let turn = YieldsList-turn (YieldsList-from_first (λ (x : Entry). x) (λ (rest : List Entry). rest) c.args.entries
    c.into_iter-entry-iterator.ensures.into_iter_gives)
    l.yielded _ l.yielded_by _ _ entry c.in-Some.is c.next.ensures.steps in
    let more = one_more c.args.entries (length l.yielded) entry turn.0 turn.1 in
    let one = length_push l.yielded entry in
    record {
      steps = rw one (omega (arith, more, l.invariant.steps, c.steps_of-steps.ensures.value));
      few = omega (arith, c.if-steps-from.false, c.from.ensures);
    }

pub returns-clause-few : goal.returns-clause-few
returns-clause-few c =
    let l = c.loop-entry in
    let end = YieldsList-end (YieldsList-from_first (λ (x : Entry). x) (λ (rest : List Entry). rest) c.args.entries
    c.into_iter-entry-iterator.ensures.into_iter_gives)
    l.yielded _ l.yielded_by _ _ c.in-None.is c.next.ensures.steps in
    let whole = ap cost (take_all (length l.yielded) c.args.entries (omega (arith, end.1))) in
    λ _. omega (arith, whole, l.invariant.steps, l.invariant.few)
