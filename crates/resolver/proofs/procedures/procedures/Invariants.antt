use Rattle.std.proofs.Common.{◌≡◌, ◌&&◌, map, take, drop}
use Rattle.std.specs.Prelude.{flat_map}
use Rattle.program.specs.Views as p
use Rattle.syntax.specs.Tree.{UnitTree}
use Rattle.types.specs.Resolved as r
use Rattle.callees.specs.Names.{IsCallees}
use Rattle.callees.specs.Pieces.{piece_of}
use Rattle.resolver.specs.Clean.{is_clean}
use Rattle.resolver.specs.Sites.{piece_faults}
use Rattle.resolver.proofs.procedures.procedures.Given as goal

abbrev pub invariant-loop-piece : goal.invariant-loop-piece
invariant-loop-piece l = (u : UnitTree) → IsCallees u l.callees
    → (map p.procedure_of l.procedures.items ≡ map (r.procedure u) (map piece_of (take l.piece-index l.piece-items)))
    × (is_clean (flat_map (piece_faults u) (map piece_of l.piece-items))
    ≡ (l.all_clean && is_clean (flat_map (piece_faults u) (map piece_of (drop l.piece-index l.piece-items)))))
