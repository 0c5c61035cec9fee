use Rattle.std.proofs.Common.{◌≡◌, map, take}
use Rattle.program.specs.Views as p
use Rattle.syntax.specs.View.{monitor_of}
use Rattle.syntax.specs.Whole.{unit_of}
use Rattle.types.specs.Resolved.{monitors_from}
use Rattle.resolver.proofs.monitors.monitors.Given as goal

abbrev pub invariant-loop-number : goal.invariant-loop-number
invariant-loop-number l = map p.monitor_of l.monitors.items
    ≡ monitors_from (unit_of l.fn.unit) 0 (map monitor_of (take l.number l.tree-items))
