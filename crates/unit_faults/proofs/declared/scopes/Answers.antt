use Rattle.syntax.specs.View.{monitor_of}
use Rattle.unit_faults.specs.Parts.{InScope}
use Rattle.unit_faults.proofs.Uses.{one_next, one_end}
use Rattle.unit_faults.proofs.declared.scopes.Goals as goal

pub loop-monitor-preserved : goal.loop-monitor-preserved
loop-monitor-preserved c = one_next monitor_of InScope c.args.monitors.now c.loop-monitor.monitor-index
    c.monitor-item.result c.args.least c.loop-monitor.least c.in_ok-least.least c.loop-monitor-test.true
    c.monitor-item.is
    c.loop-monitor.invariant c.in_ok-least.ensures

pub returns : goal.returns
returns c = one_end monitor_of InScope c.args.monitors.now c.loop-monitor.monitor-index c.args.least
    c.loop-monitor.least c.loop-monitor-test.false c.loop-monitor.invariant
