use Rattle.std.proofs.Common.{◌≡◌, ◌++◌, map, take}
use Rattle.syntax.specs.View.{monitor_procedure_of}
use Rattle.types.specs.Pieces as p
use Rattle.callees.specs.Pieces.{piece_of}
use Rattle.callees.proofs.piece.push_procedures.Given as goal

abbrev pub invariant-loop-procedure : goal.invariant-loop-procedure
invariant-loop-procedure l = map piece_of l.pieces.items ≡ map piece_of l.fn.pieces.items
    ++ map (λ q. p.piece_of (p.role_of q.access l.number) q.procedure)
    (map monitor_procedure_of (take l.procedure-index l.procedures))
