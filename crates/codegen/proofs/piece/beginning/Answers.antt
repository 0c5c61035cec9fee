use Rattle.std.proofs.Common.{◌≡◌, ◌+◌, length, arith, length-append, ◌∙◌}
use Rattle.lowering.specs.Pieces.{parameters_code, entering_code}
use Rattle.codegen.specs.Sites.{setting_at}
use Rattle.codegen.proofs.Arguments.{parameters_length}
use Rattle.codegen.proofs.Failing.{failed}
use Rattle.codegen.proofs.piece.beginning.Goals as goal

pub returns-in_err-parameter_count : goal.returns-in_err-parameter_count
returns-in_err-parameter_count c =
    let n = length c.args.procedure.now.parameters.items in
    let old = length c.args.code.now.items in
    let few : c.len.result ≡ n = c.len.ensures ∙ c.args.procedure.now.parameters.ok.0 in
    let same = parameters_length n in
    let both =
    length-append (parameters_code n) (entering_code (setting_at c.args.site.now) c.args.site.now.role
    (old + length (parameters_code n))) in
    failed c.from_residual.result c.in_err-parameter_count.field-0.0 _ _ _ c.from_residual.ensures
    c.in_err-parameter_count.ensures (omega arith)
