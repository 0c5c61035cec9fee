use Rattle.std.proofs.Common.{◌<◌, All, arith, subst}
use Rattle.std.proofs.lemmas.List.{take_all}
use Rattle.std.proofs.lemmas.List.Elements.{All-more}
use Rattle.image_states.proofs.turns.are_less.Goals as goal

pub loop-number-preserved : goal.loop-number-preserved
loop-number-preserved c =
    All-more (λ n. n < c.args.count) c.args.numbers.now c.loop-number.number-index 0 c.loop-number-test.true
    c.loop-number.invariant (omega (arith, c.if-number-count.false))

pub returns-then-number-count : goal.returns-then-number-count
returns-then-number-count c = λ all.
    let less = all c.loop-number.number-index 0 c.loop-number-test.true in
    absurd (omega (arith, less, c.if-number-count.true))

pub returns : goal.returns
returns c = subst (All (λ n. n < c.args.count))
    (take_all c.loop-number.number-index c.args.numbers.now c.loop-number-test.false) c.loop-number.invariant
