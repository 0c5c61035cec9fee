use Rattle.std.proofs.Common.{◌≡◌, map, take}
use Rattle.unit_faults.proofs.names.parameter_names.Given as goal

abbrev pub invariant-loop-parameter : goal.invariant-loop-parameter
invariant-loop-parameter l = l.names.items ≡ map (λ x. x.name) (take l.parameter-index l.parameters)
