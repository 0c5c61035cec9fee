use Rattle.std.proofs.Common.{◌++◌, ◌∙◌, ap, sym, is_some, is_none, ◌&&◌}
use Rattle.scanner.specs.declared.refusal.RefusalKind.TheVariants.{WrongPlace, DirectReentry, TypeMismatch}
use Rattle.syntax.specs.View.{callee_of}
use Rattle.types.specs.Faults.{where_true}
use Rattle.types.specs.StatementFaults.{callee_place, is_internal, own_role, count_faults}
use Rattle.types.proofs.Gathered.{gathers_both}
use Rattle.callees.specs.Pieces.{piece_of}
use Rattle.unit_faults.proofs.Gathering.{gathers_where}
use Rattle.unit_faults.proofs.call.named.Goals as goal

pub returns : goal.returns
returns c = λ s h.
    let e = callee_of c.args.callee.now in
    let q = piece_of c.args.piece.now in
    let p = callee_place e in
    let place = c.callee_place-place.ensures in
    let hidden = where_true (is_some e.dotted && is_internal q.role) WrongPlace p in
    let held = where_true (own_role s.piece.role q.role) DirectReentry p in
    let other = count_faults e q in
    let empty = where_true (c.args.takes && is_none q.returns) TypeMismatch p in
    gathers_both (hidden ++ held ++ other) empty c.args.least c.note_where-third.result c.note_where.result
    (gathers_both (hidden ++ held) other c.args.least c.note_where-second.result c.note_where-third.result
    (gathers_both hidden held c.args.least c.note_where-first.result c.note_where-second.result
    (gathers_where _ _ _ _ _ _ _ c.is_hidden-inner.ensures place c.note_where-first.ensures)
    (gathers_where _ _ _ _ _ _ _ (c.is_reentry-held.ensures ∙ ap (λ r. own_role r q.role) (sym h.role)) place
    c.note_where-second.ensures))
    (gathers_where _ _ _ _ _ _ _ c.is_miscounted-other.ensures place c.note_where-third.ensures))
    (gathers_where _ _ _ _ _ _ _ c.is_empty-empty.ensures place c.note_where.ensures)
