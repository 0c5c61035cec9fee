use Rattle.std.proofs.Common.{◌≡◌, ◌++◌, map, take}
use Rattle.unit_faults.proofs.names.push_external.Given as goal

abbrev pub invariant-loop-procedure : goal.invariant-loop-procedure
invariant-loop-procedure l = l.names.items ≡ l.fn.names.items
    ++ map (λ q. q.name) (take l.procedure-index l.procedures)
