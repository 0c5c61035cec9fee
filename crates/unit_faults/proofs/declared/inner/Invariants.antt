use Rattle.std.proofs.Common.{map, take}
use Rattle.callees.specs.Pieces.{piece_of}
use Rattle.unit_faults.specs.Collected.{Collects}
use Rattle.unit_faults.specs.Parts.{InPiece}
use Rattle.unit_faults.proofs.Along.{Along}
use Rattle.unit_faults.proofs.declared.inner.Given as goal

abbrev pub invariant-loop-piece : goal.invariant-loop-piece
invariant-loop-piece l =
    Collects (Along (λ before q. InPiece q) (take l.piece-index (map piece_of l.pieces))) l.fn.least l.least
