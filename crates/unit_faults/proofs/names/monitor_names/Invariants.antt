use Rattle.std.proofs.Common.{◌≡◌, map, take}
use Rattle.unit_faults.proofs.names.monitor_names.Given as goal

abbrev pub invariant-loop-monitor : goal.invariant-loop-monitor
invariant-loop-monitor l = l.names.items ≡ map (λ x. x.name) (take l.monitor-index l.unit.monitors.items)
