use Rattle.std.proofs.Common.{◌≤◌, length, map, subst}
use Rattle.std.specs.Prelude.{⊤, IfErr}
use Rattle.program.specs.Trees.{as_version}
use Rattle.program.specs.Views.{program_of, procedure_of}
use Rattle.lowering.specs.Pieces.{unlinked_code}
use Rattle.codegen.specs.Generated.{length_of, RefusesPieces}
use Rattle.codegen.proofs.Failing.{failed}
use Rattle.codegen.proofs.Totals.{one_fits}
use Rattle.codegen.proofs.pieces.generate.Goals as goal

pub returns-in_err-code-clause-refusal : goal.returns-in_err-code-clause-refusal
returns-in_err-code-clause-refusal c =
    let program = c.program-program.result.now in
    let v = c.args.layout.now.version in
    let p = as_version v (program_of program) in
    let q = c.procedure-item.result in
    let fits =
    subst (λ qs. length (unlinked_code p (procedure_of q)) ≤ length_of p (map procedure_of qs))
    c.deref-procedure-items.ensures.value
    (one_fits p c.deref-procedure-items.result.now c.loop-procedure.procedure-index q c.loop-procedure-test.true
    c.procedure-item.is) in
    subst (λ t. IfErr c.from_residual.result (λ e. RefusesPieces (as_version v (program_of t)) e))
    c.program-program.ensures.is
    (failed c.from_residual.result c.in_err-code.field-0.0 (λ _. ⊤) (length (unlinked_code p (procedure_of q)))
    (length_of p (map procedure_of program.procedures.items)) c.from_residual.ensures c.in_err-code.ensures fits)
