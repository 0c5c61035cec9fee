use Rattle.source_offers.proofs.Copied.{copied-more}
use Rattle.source_offers.proofs.copies.copies.Goals as goal

pub loop-frame-preserved : goal.loop-frame-preserved
loop-frame-preserved c =
    copied-more c.args.frames.now _ _ c.loop-frame.frame-index c.frame-item.result c.in_ok-copy.field-0
    c.loop-frame-test.true c.frame-item.is c.in_ok-copy.ensures c.in_ok-push.ensures.items c.loop-frame.invariant
