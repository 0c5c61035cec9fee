use Rattle.std.proofs.Common.{◌≡◌, ◌++◌, map, take}
use Rattle.unit_faults.proofs.names.push_inner.Given as goal

abbrev pub invariant-loop-inner : goal.invariant-loop-inner
invariant-loop-inner l = l.names.items
    ≡ l.fn.names.items ++ map (λ q. q.procedure.name) (take l.inner-index l.procedures)
