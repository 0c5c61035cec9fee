use Rattle.std.proofs.Common.{map, subst}
use Rattle.syntax.specs.View.{parameter_of, local_of}
use Rattle.callees.specs.Pieces.{piece_of}
use Rattle.unit_faults.specs.Collected.{Collects}
use Rattle.unit_faults.specs.Parts.{InBody, InPiece}
use Rattle.unit_faults.proofs.Uses.{one_next, one_end}
use Rattle.unit_faults.proofs.declared.inner.Goals as goal

pub loop-piece-preserved : goal.loop-piece-preserved
loop-piece-preserved c =
    let ps = map parameter_of c.piece-item.result.parameters.now in
    one_next piece_of InPiece c.args.pieces.now c.loop-piece.piece-index c.piece-item.result c.args.least
    c.loop-piece.least c.in_ok-least.least c.loop-piece-test.true c.piece-item.is c.loop-piece.invariant
    (subst (λ ls. Collects (InBody ps (map local_of ls)) c.loop-piece.least c.in_ok-least.least) c.deref.ensures.value
    c.in_ok-least.ensures)

pub returns : goal.returns
returns c = one_end piece_of InPiece c.args.pieces.now c.loop-piece.piece-index c.args.least c.loop-piece.least
    c.loop-piece-test.false c.loop-piece.invariant
