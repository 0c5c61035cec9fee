use Rattle.std.proofs.Common.{◌≡◌, map, take}
use Rattle.std.specs.List.{flat_map}
use Rattle.unit_faults.proofs.names.procedure_names.Given as goal

abbrev pub invariant-loop-monitor : goal.invariant-loop-monitor
invariant-loop-monitor l = l.names.items
    ≡ flat_map (λ m. map (λ q. q.procedure.name) m.procedures.items) (take l.monitor-index l.unit.monitors.items)
