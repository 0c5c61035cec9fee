use Rattle.std.proofs.Common.{map, subst}
use Rattle.syntax.specs.View.{callee_of, expression_of}
use Rattle.types.specs.Faults.{Gathers}
use Rattle.types.specs.StatementFaults.{arguments_faults, matched_faults}
use Rattle.types.proofs.Gathered.{gathers_both}
use Rattle.callees.specs.Pieces.{piece_of}
use Rattle.unit_faults.proofs.call.passed.Goals as goal

pub returns : goal.returns
returns c = λ s h.
    let e = callee_of c.args.callee.now in
    let ps = (piece_of c.args.piece.now).parameters in
    gathers_both (arguments_faults s e.arguments) (matched_faults s e.arguments ps) c.args.least
    c.arguments-first.result c.matched.result
    (subst (λ xs. Gathers (arguments_faults s (map expression_of xs)) c.args.least c.arguments-first.result)
    c.deref.ensures.value (c.arguments-first.ensures s h.standing))
    (subst (λ xs. Gathers (matched_faults s (map expression_of xs) ps) c.arguments-first.result c.matched.result)
    c.deref-2.ensures.value (c.matched.ensures s h.standing))
