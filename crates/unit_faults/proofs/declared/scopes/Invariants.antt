use Rattle.std.proofs.Common.{map, take}
use Rattle.syntax.specs.View.{monitor_of}
use Rattle.unit_faults.specs.Collected.{Collects}
use Rattle.unit_faults.specs.Parts.{InScope}
use Rattle.unit_faults.proofs.Along.{Along}
use Rattle.unit_faults.proofs.declared.scopes.Given as goal

abbrev pub invariant-loop-monitor : goal.invariant-loop-monitor
invariant-loop-monitor l =
    Collects (Along (λ before t. InScope t) (take l.monitor-index (map monitor_of l.monitors))) l.fn.least l.least
