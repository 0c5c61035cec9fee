use Rattle.std.proofs.Common.{map, subst}
use Rattle.syntax.specs.View.{callee_of, expression_of}
use Rattle.types.specs.Faults.{Gathers, unknown}
use Rattle.types.specs.StatementFaults.{missing_place, arguments_faults}
use Rattle.types.proofs.Gathered.{gathers_both}
use Rattle.unit_faults.proofs.call.missing.Goals as goal

pub returns : goal.returns
returns c = λ s h.
    let e = callee_of c.args.callee.now in
    gathers_both (unknown (missing_place s e.name e.dotted)) (arguments_faults s e.arguments) c.args.least
    c.note-first.result c.arguments.result
    (subst (λ p. Gathers (unknown p) c.args.least c.note-first.result)
    (c.missing_place-place.ensures s h.callees) c.note-first.ensures)
    (subst (λ xs. Gathers (arguments_faults s (map expression_of xs)) c.note-first.result c.arguments.result)
    c.deref.ensures.value (c.arguments.ensures s h.standing))
