use Rattle.std.proofs.Common.{map, take}
use Rattle.syntax.specs.View.{member_of}
use Rattle.unit_faults.specs.Collected.{Collects}
use Rattle.unit_faults.proofs.Along.{Along}
use Rattle.unit_faults.proofs.Relations.{SizeAt}
use Rattle.unit_faults.proofs.limits.sizes.Given as goal

abbrev pub invariant-loop-member : goal.invariant-loop-member
invariant-loop-member l = Collects (Along SizeAt (take l.member-index (map member_of l.members))) l.fn.least l.least
