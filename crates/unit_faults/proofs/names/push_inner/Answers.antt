use Rattle.unit_faults.proofs.Named.{named_more, named_all}
use Rattle.unit_faults.proofs.names.push_inner.Goals as goal

pub loop-inner-preserved : goal.loop-inner-preserved
loop-inner-preserved c =
    named_more (λ q. q.procedure.name) c.args.procedures.now c.loop-inner.inner-index c.inner-item.result c.args.names.now.items
    c.loop-inner.names.items c.push.new.self.items c.loop-inner.invariant c.loop-inner-test.true c.inner-item.is
    c.in_ok-push.ensures.items

pub returns : goal.returns
returns c =
    named_all (λ q. q.procedure.name) c.args.procedures.now c.loop-inner.inner-index c.args.names.now.items c.loop-inner.names.items
    c.loop-inner.invariant c.loop-inner-test.false
