use Rattle.std.proofs.Common.{map, take}
use Rattle.syntax.specs.Tree.{UnitTree}
use Rattle.callees.specs.Names.{IsCallees}
use Rattle.callees.specs.Pieces.{piece_of}
use Rattle.unit_faults.specs.Collected.{Collects}
use Rattle.unit_faults.specs.Parts.{InStatements}
use Rattle.unit_faults.proofs.Along.{Along}
use Rattle.unit_faults.proofs.bodies.bodies.Given as goal

abbrev pub invariant-loop-piece : goal.invariant-loop-piece
invariant-loop-piece l = (u : UnitTree) → IsCallees u l.callees
    → Collects (Along (λ before q. InStatements u q) (take l.piece-index (map piece_of l.callees.pieces.items)))
    l.fn.least l.least
