use Rattle.std.proofs.Common.{map}
use Rattle.program.specs.declared.kinds.Role.TheVariants.{External}
use Rattle.syntax.specs.View.{procedure_of}
use Rattle.types.specs.Pieces as p
use Rattle.callees.specs.Pieces.{piece_of}
use Rattle.callees.proofs.Growing.{pushed, each_pushed}
use Rattle.callees.proofs.piece.push_externals.Goals as goal

pub loop-procedure-preserved : goal.loop-procedure-preserved
loop-procedure-preserved c =
    pushed piece_of (p.piece_of External) procedure_of c.args.procedures.now c.loop-procedure.procedure-index
    c.procedure-item.result c.loop-procedure.pieces.items c.push.new.self.items c.procedure_piece.result
    (map piece_of c.args.pieces.now.items) c.loop-procedure-test.true c.procedure-item.is c.in_ok-push.ensures.items
    c.procedure_piece.ensures c.loop-procedure.invariant

pub returns : goal.returns
returns c =
    each_pushed piece_of (p.piece_of External) procedure_of c.args.procedures.now c.loop-procedure.procedure-index
    c.loop-procedure.pieces.items (map piece_of c.args.pieces.now.items) c.loop-procedure-test.false
    c.loop-procedure.invariant
