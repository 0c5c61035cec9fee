use Rattle.std.proofs.Common.{◌++◌, ◌∙◌, ap, sym, subst, Some}
use Rattle.std.specs.Prelude.{option_map}
use Rattle.program.specs.declared.kinds.ValueType.TheVariants.{Process}
use Rattle.syntax.specs.View.{callee_of, name_of}
use Rattle.types.specs.CallFaults.{fork_faults}
use Rattle.types.specs.Faults.{Gathers, unknown}
use Rattle.types.specs.StatementFaults.{missing_place, arguments_faults, taker_faults}
use Rattle.types.proofs.Gathered.{gathers_both}
use Rattle.callees.specs.Pieces.{piece_of}
use Rattle.unit_faults.proofs.call.begun.Goals as goal

pub returns-in-Some : goal.returns-in-Some
returns-in-Some c = λ s h.
    let e = callee_of c.args.callee.now in
    let n = name_of c.args.name in
    subst (λ o. Gathers (fork_faults s e n o) c.args.least c.started.result)
    (ap (option_map piece_of) (sym c.in-Some.is) ∙ c.called.ensures s h.callees h.role) (c.started.ensures s h)

pub returns-in-None : goal.returns-in-None
returns-in-None c = λ s h.
    let e = callee_of c.args.callee.now in
    let n = name_of c.args.name in
    subst (λ o. Gathers (fork_faults s e n o) c.args.least c.taker.result)
    (ap (option_map piece_of) (sym c.in-None.is) ∙ c.called.ensures s h.callees h.role)
    (gathers_both (unknown (missing_place s e.name e.dotted) ++ arguments_faults s e.arguments)
    (taker_faults s (Some Process) n) c.args.least c.missing-first.result c.taker.result
    (c.missing-first.ensures s h) (c.taker.ensures s h.standing))
