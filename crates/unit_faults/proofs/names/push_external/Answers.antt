use Rattle.unit_faults.proofs.Named.{named_more, named_all}
use Rattle.unit_faults.proofs.names.push_external.Goals as goal

pub loop-procedure-preserved : goal.loop-procedure-preserved
loop-procedure-preserved c =
    named_more (λ q. q.name) c.args.procedures.now c.loop-procedure.procedure-index c.procedure-item.result c.args.names.now.items
    c.loop-procedure.names.items c.push.new.self.items c.loop-procedure.invariant c.loop-procedure-test.true c.procedure-item.is
    c.in_ok-push.ensures.items

pub returns : goal.returns
returns c =
    named_all (λ q. q.name) c.args.procedures.now c.loop-procedure.procedure-index c.args.names.now.items c.loop-procedure.names.items
    c.loop-procedure.invariant c.loop-procedure-test.false
