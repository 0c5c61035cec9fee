use Rattle.std.proofs.Common.{◌≡◌, ◌≤◌, length, map, subst}
use Rattle.program.specs.Trees.{as_version}
use Rattle.program.specs.Views.{program_of, procedure_of}
use Rattle.lowering.specs.Pieces.{unlinked_code}
use Rattle.codegen.specs.Generated.{length_of, piece_of}
use Rattle.codegen.proofs.Failing.{failed}
use Rattle.codegen.proofs.Totals.{one_fits}
use Rattle.codegen_workers.specs.Shares.{share_of}
use Rattle.codegen_workers.proofs.share.generate_share.Goals as goal

pub returns-in_err-code : goal.returns-in_err-code
returns-in_err-code g c =
    let program = c.args.share.program.now in
    let p = as_version c.args.share.layout.now.version (program_of program) in
    let q = c.procedure-item.result in
    let fits =
    subst (λ qs. length (unlinked_code p (procedure_of q)) ≤ length_of p (map procedure_of qs))
    c.deref-procedure-items.ensures.value
    (one_fits p c.deref-procedure-items.result.now c.loop-procedure.procedure-index q c.loop-procedure-test.true
    c.procedure-item.is) in
    failed c.from_residual.result c.in_err-code.field-0.0
    (λ pieces. map piece_of pieces.items ≡ share_of p c.args.share.workers c.args.share.worker)
    (length (unlinked_code p (procedure_of q))) (length_of p (map procedure_of program.procedures.items))
    c.from_residual.ensures c.in_err-code.ensures fits
