-- Those woken are threads.
use Rattle.std.proofs.Common.{◌∙◌}
use Rattle.machine.proofs.Queues.{woken_threads}
use Rattle.machine.proofs.common.Common.wake.Goals as goal

pub put_with-requires-clause-woken : goal.put_with-requires-clause-woken
put_with-requires-clause-woken c =
    let w = c.wake.ensures in
    woken_threads c.self.inside.buckets c.args.a.0 c.args.n c.as_slice-woken.result.now w.sound.0 c.self.invariant.places
    (c.as_slice-woken.ensures ∙ w.woken)
