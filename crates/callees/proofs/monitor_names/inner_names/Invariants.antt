use Rattle.std.proofs.Common.{map, take}
use Rattle.syntax.specs.View.{name_of}
use Rattle.types.specs.Tables.{IsTable}
use Rattle.callees.proofs.monitor_names.inner_names.Given as goal

abbrev pub invariant-loop-procedure : goal.invariant-loop-procedure
invariant-loop-procedure l =
    IsTable (map (λ q. name_of q.procedure.name) (take l.procedure-index l.procedures)) l.names
