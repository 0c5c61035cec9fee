use Rattle.std.proofs.Common.{◌∙◌, ap, arith}
use Rattle.machine.specs.States.{state_of}
use Rattle.machine.specs.Views.{concrete}
use Rattle.image_states.specs.Crowds.{counted}
use Rattle.image_search.proofs.Crowding.{one_more}
use Rattle.image_search.proofs.crowds.sleepers_in.Goals as goal

pub loop-before-preserved : goal.loop-before-preserved
loop-before-preserved c = record {
  is = one_more (state_of (concrete c.args.machine.now)).asleep c.args.a.0 c.loop-before.before c.loop-before.count
      c.counted-one.result c.loop-before.invariant.is
      (c.counted-one.ensures.is ∙ ap (λ o. counted o c.args.a.0) c.asleep.ensures);
  few = omega (arith, c.loop-before.invariant.few, c.counted-one.ensures.few);
}

pub returns : goal.returns
returns c = (c.loop-before.before, c.loop-before.invariant.is)
