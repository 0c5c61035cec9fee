use Rattle.std.proofs.Common.{◌≡◌, ◌++◌, map, take}
use Rattle.program.specs.declared.kinds.Role.TheVariants.{External}
use Rattle.syntax.specs.View.{procedure_of}
use Rattle.types.specs.Pieces as p
use Rattle.callees.specs.Pieces.{piece_of}
use Rattle.callees.proofs.piece.push_externals.Given as goal

abbrev pub invariant-loop-procedure : goal.invariant-loop-procedure
invariant-loop-procedure l = map piece_of l.pieces.items ≡ map piece_of l.fn.pieces.items
    ++ map (p.piece_of External) (map procedure_of (take l.procedure-index l.procedures))
