use Rattle.std.proofs.Common.{◌≡◌, take}
use Rattle.std.specs.List.{flat_map}
use Rattle.unit_faults.proofs.names.all_members.Given as goal

abbrev pub invariant-loop-monitor : goal.invariant-loop-monitor
invariant-loop-monitor l = l.members.items ≡ flat_map (λ m. m.members.items) (take l.monitor-index l.monitors)
