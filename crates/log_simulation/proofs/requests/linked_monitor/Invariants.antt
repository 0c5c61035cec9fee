use Rattle.std.proofs.Common.{◌≡◌}
use Rattle.lowering.specs.Layout.{layout_of}
use Rattle.program.specs.Trees.{Program}
use Rattle.proof_simulation.specs.Kills.{linked_monitor}
use Rattle.log_simulation.proofs.requests.linked_monitor.Given as goal

abbrev pub invariant-loop-monitor : goal.invariant-loop-monitor
invariant-loop-monitor l = record {
  found : (p : Program) → l.layout ≡ layout_of p → l.found ≡ linked_monitor p l.address l.monitor;
}
