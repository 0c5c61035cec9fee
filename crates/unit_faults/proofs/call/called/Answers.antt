use Rattle.std.proofs.Common.{◌++◌, ◌∙◌, ap, sym, subst, None}
use Rattle.std.specs.Prelude.{option_map}
use Rattle.syntax.specs.View.{callee_of, option_name}
use Rattle.types.specs.CallFaults.{call_faults}
use Rattle.types.specs.Faults.{Gathers, unknown}
use Rattle.types.specs.StatementFaults.{missing_place, arguments_faults, into_faults}
use Rattle.types.proofs.Gathered.{gathers_both}
use Rattle.callees.specs.Pieces.{piece_of}
use Rattle.unit_faults.proofs.call.called.Goals as goal

pub returns-in-Some : goal.returns-in-Some
returns-in-Some c = λ s h.
    let e = callee_of c.args.callee.now in
    let n = option_name c.args.name in
    subst (λ o. Gathers (call_faults s e n o) c.args.least c.answered.result)
    (ap (option_map piece_of) (sym c.in-Some.is) ∙ c.called.ensures s h.callees h.role) (c.answered.ensures s h)

pub returns-in-None : goal.returns-in-None
returns-in-None c = λ s h.
    let e = callee_of c.args.callee.now in
    let n = option_name c.args.name in
    subst (λ o. Gathers (call_faults s e n o) c.args.least c.into.result)
    (ap (option_map piece_of) (sym c.in-None.is) ∙ c.called.ensures s h.callees h.role)
    (gathers_both (unknown (missing_place s e.name e.dotted) ++ arguments_faults s e.arguments) (into_faults s None n)
    c.args.least c.missing-first.result c.into.result (c.missing-first.ensures s h)
    (c.into.ensures s h.standing))
