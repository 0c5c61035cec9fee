use Rattle.source_offers.proofs.Frames.{zeros-more}
use Rattle.source_offers.proofs.frame.with_zeros.Goals as goal

pub loop-preserved : goal.loop-preserved
loop-preserved c =
    zeros-more _ _ _ c.args.types.now c.loop.index c.loop.invariant c.in_ok-push.ensures.items c.loop-test.true
