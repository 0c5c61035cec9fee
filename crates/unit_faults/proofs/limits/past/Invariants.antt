use Rattle.std.proofs.Common.{map, take}
use Rattle.syntax.specs.View.{name_of}
use Rattle.unit_faults.specs.Collected.{Collects}
use Rattle.unit_faults.proofs.Along.{Along}
use Rattle.unit_faults.proofs.Relations.{PastAt}
use Rattle.unit_faults.proofs.limits.past.Given as goal

abbrev pub invariant-loop-i : goal.invariant-loop-i
invariant-loop-i l = Collects (Along (PastAt l.most) (take l.i (map name_of l.names))) l.fn.least l.least
