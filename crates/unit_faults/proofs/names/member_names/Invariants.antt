use Rattle.std.proofs.Common.{◌≡◌, map, take}
use Rattle.unit_faults.proofs.names.member_names.Given as goal

abbrev pub invariant-loop-member : goal.invariant-loop-member
invariant-loop-member l = l.names.items ≡ map (λ x. x.name) (take l.member-index l.members)
