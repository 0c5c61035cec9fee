use Rattle.std.proofs.Common.{ap}
use Rattle.source_states.proofs.Copied.{copied-more}
use Rattle.source_states.proofs.copying.copies.Goals as goal

pub loop-number-preserved : goal.loop-number-preserved
loop-number-preserved c =
    copied-more c.args.processes.now _ _ c.loop-number.number-index c.loop-number-item.result
    (c.loop-number-item.result.0, c.in_ok-copy.field-0) c.loop-number-test.true c.loop-number-item.is
    (ap (λ q. (c.loop-number-item.result.0, q)) c.in_ok-copy.ensures) c.in_ok-push.ensures.items
    c.loop-number.invariant
