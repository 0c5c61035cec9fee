use Rattle.std.proofs.Common.{not, Some, ap, sym, ◌∙◌}
use Rattle.scanner.specs.declared.refusal.RefusalKind.TheVariants.{WrongPlace}
use Rattle.program.specs.declared.kinds.ValueType.TheVariants.{Process, Integer}
use Rattle.program.specs.Trees.{Join}
use Rattle.program.specs.Views.{part_in}
use Rattle.syntax.specs.View as v
use Rattle.types.specs.CallFaults.{part_faults}
use Rattle.types.specs.Expressions as e
use Rattle.types.specs.StatementFaults as f
use Rattle.types.specs.Statements as st
use Rattle.resolver.proofs.Blocks.{join_made}
use Rattle.resolver.proofs.CleanBodies.{four, join_clean}
use Rattle.resolver.proofs.calls.join.Goals as goal

pub returns : goal.returns
returns c = λ s place rest h part clean.
    let t = v.expression_of c.args.tree.now in
    let n = v.option_name c.args.name in
    let k = c.in_ok-handle in (
      join_made k.handle c.into-into.result.0 c.args.aborted
          ∙ ap (λ y. Join y c.into-into.result.0 (part_in c.args.aborted)) (k.ensures.expression s h.standing)
          ∙ ap (λ y. Join (e.expression s t) y (part_in c.args.aborted)) (c.into-into.ensures.into s h.standing)
          ∙ ap (Join (e.expression s t) (st.into s n)) part,
      four c.both.ensures c.both-2.ensures c.both-3.ensures
          (ap not (c.is_recover-is_placed.ensures ∙ ap f.is_recover (sym h.role))) (k.ensures.clean s h.standing)
          (c.into-into.ensures.clean s h.standing) clean
          ∙ sym (join_clean (f.is_recover s.piece.role) WrongPlace place (f.typed_faults s Process t)
          (f.into_faults s (Some Integer) n) (part_faults s rest)),
    )
