use Rattle.std.proofs.Common.{◌++◌, length, ap, ◌∙◌}
use Rattle.program.specs.Trees.{as_version}
use Rattle.program.specs.Views.{program_of, procedure_of, block_in}
use Rattle.lowering.specs.Marks.{sequence}
use Rattle.lowering.specs.Statements.{block_code}
use Rattle.lowering.specs.Pieces.{setting_of, parameters_code, entering_code}
use Rattle.codegen.specs.Halves.{beginning_code, end_code}
use Rattle.codegen.proofs.Sequences.{whole, sequence-assoc}
use Rattle.codegen.proofs.piece.procedure_code.Goals as goal

pub returns : goal.returns
returns c =
    let q = procedure_of c.args.procedure.now in
    let p = as_version c.args.layout.now.version (program_of c.args.program.now) in
    let set = setting_of p (λ piece. piece) q in
    let first = c.beginning.new.code.items in
    let body =
    c.in_ok-block.ensures ∙ ap (λ ss. first ++ block_code set (block_in ss) (length first)) c.as_slice-body.ensures.value in
    c.shrink_to_fit.ensures.items
    ∙ whole (beginning_code set (length q.parameters)) (block_code set q.body) (end_code set) _ first _ _
    c.in_ok-code.ensures.items c.in_ok-beginning.ensures body c.in_ok-text_end.ensures
    ∙ sequence-assoc (λ _. parameters_code (length q.parameters)) (entering_code set q.role)
    (sequence (block_code set q.body) (end_code set)) 0
