use Rattle.std.proofs.Common.{◌≡◌, ◌++◌, map, take}
use Rattle.unit_faults.proofs.names.push_locals.Given as goal

abbrev pub invariant-loop-local : goal.invariant-loop-local
invariant-loop-local l = l.names.items ≡ l.fn.names.items ++ map (λ x. x.name) (take l.local-index l.locals)
