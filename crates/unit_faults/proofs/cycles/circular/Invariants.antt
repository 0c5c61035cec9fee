use Rattle.std.proofs.Common.{map, take}
use Rattle.callees.specs.Pieces.{piece_of}
use Rattle.unit_faults.specs.Collected.{Collects}
use Rattle.unit_faults.proofs.Along.{Along}
use Rattle.unit_faults.proofs.Circles.{CallsAt}
use Rattle.unit_faults.proofs.cycles.circular.Given as goal

abbrev pub invariant-loop-number : goal.invariant-loop-number
invariant-loop-number l =
    Collects (Along (CallsAt l.calls) (take l.number (map piece_of l.pieces))) l.fn.least l.least
