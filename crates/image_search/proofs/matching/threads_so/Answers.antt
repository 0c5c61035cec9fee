use Rattle.std.proofs.Common.{arith, below_more, suc}
use Rattle.image_search.specs.Living.{SameAsleep, StandsOn}
use Rattle.image_search.proofs.matching.threads_so.Goals as goal

pub loop-k-init : goal.loop-k-init
loop-k-init c = λ j less. absurd (omega (arith, less))

pub loop-k-preserved : goal.loop-k-preserved
loop-k-preserved c =
    below_more (λ j. SameAsleep c.args.machine.now c.args.packed.now (suc j)
    × StandsOn c.args.image.now c.args.parts.now c.args.machine.now c.args.packed.now (suc j)) c.loop-k.k c.loop-k.invariant
    (c.sleeps_so.ensures c.if-not-sleeps_so.false, c.stands_so.ensures c.if-not-stands_so.false)

pub returns : goal.returns
returns c = λ e. (
  omega (arith, c.if-len-count.false, c.len.ensures, c.args.packed.now.parts.ok.0, c.threads-count.ensures.value),
  omega (
    arith,
    c.if-len-count-2.false,
    c.len-else-len-count.ensures,
    c.args.packed.now.places.ok.0,
    c.threads-count.ensures.value,
  ),
  λ k less. c.loop-k.invariant k (omega (arith, less, c.loop-k-test.false, c.threads-count.ensures.value)),
)
