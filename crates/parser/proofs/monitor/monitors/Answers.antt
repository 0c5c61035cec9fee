use Rattle.std.proofs.Common.{[], arith}
use Rattle.syntax.specs.View.{monitor_of}
use Rattle.parser.specs.Steps.{add_monitor}
use Rattle.parser.proofs.Loops.{goes_on, ends, chain_map}
use Rattle.parser.proofs.monitor.monitors.Goals as goal

pub monitors-preserved : goal.monitors-preserved
monitors-preserved c = record {
  read = goes_on (λ x. (x, tt)) add_monitor _ _ c.in-Some.monitor _ _ _ c.in_ok-push.ensures.items
      c.monitors.invariant.read (rw c.in-Some.is at c.in_ok-monitor.ensures.ok);
  within = omega (arith, c.monitors.invariant.within, c.in_ok-monitor.ensures.within);
}

pub returns-clause-ok : goal.returns-clause-ok
returns-clause-ok c =
    rw (← (chain_map monitor_of c.monitors.monitors.items))
    (ends (λ x. (x, tt)) add_monitor c.monitors.monitors.items [] _ _ _ c.monitors.invariant.read
    (rw c.in_default.is at c.in_ok-monitor.ensures.ok))
