use Rattle.scanner.specs.declared.refusal.RefusalKind.TheVariants.{WrongPlace}
use Rattle.syntax.specs.View.{callee_of}
use Rattle.types.specs.Faults.{where_true}
use Rattle.types.specs.StatementFaults.{callee_place, is_internal, count_faults}
use Rattle.types.proofs.Gathered.{gathers_both}
use Rattle.callees.specs.Pieces.{piece_of}
use Rattle.unit_faults.proofs.Gathering.{gathers_where}
use Rattle.unit_faults.proofs.call.forked.Goals as goal

pub returns : goal.returns
returns c =
    let e = callee_of c.args.callee.now in
    let q = piece_of c.args.piece.now in
    let place = c.callee_place-place.ensures in
    gathers_both (where_true (is_internal q.role) WrongPlace (callee_place e)) (count_faults e q) c.args.least
    c.note_where-first.result c.note_where.result
    (gathers_where _ _ _ _ _ _ _ c.is_internal-inner.ensures place c.note_where-first.ensures)
    (gathers_where _ _ _ _ _ _ _ c.is_miscounted-other.ensures place c.note_where.ensures)
