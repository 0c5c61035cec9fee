use Rattle.std.proofs.Common.{◌++◌, ◌+◌, ◌&&◌, ◌∙◌, ap, sym, subst, refl, drop, IfOk}
use Rattle.program.specs.Trees.{If, While}
use Rattle.program.specs.Views as p
use Rattle.program.specs.declared.kinds.ValueType.TheVariants.{Boolean}
use Rattle.syntax.proofs.Built as built
use Rattle.syntax.specs.View as v
use Rattle.types.specs.CallFaults.{statement_faults, block_faults, part_faults}
use Rattle.types.specs.Expressions as e
use Rattle.types.specs.StatementFaults as f
use Rattle.types.specs.Statements as st
use Rattle.resolver.specs.Clean.{is_clean, IsJudged}
use Rattle.resolver.proofs.Blocks.{IsPart, if_made, while_made, some_part, no_part, block_next}
use Rattle.resolver.proofs.CleanBodies.{clean_both, clean_more}
use Rattle.resolver.proofs.statements.+statements.Goals.{statement-in-Some+in_ok-block-in-Some, statement-in-None}
use Rattle.resolver.proofs.statements.+statements.Goals.{statement-in-Some-aborted+in_ok-block-in-Some-aborted}
use Rattle.resolver.proofs.statements.+statements.Goals.{statement-in-None-aborted}
use Rattle.resolver.proofs.statements.+statements.Goals as goal

pub block-loop-tree-preserved : goal.block-loop-tree-preserved
block-loop-tree-preserved t c = λ s h.
    let made = c.in_ok-made.ensures s h in
    let i = c.loop-tree.tree-index in
    let ts = c.args.trees.now in (
      block_next s _ _ _ ts i c.tree-item.result c.loop-tree-test.true c.tree-item.is c.in_ok-push.ensures.items made.0
          ∙ (c.loop-tree.invariant s h).0,
      clean_more (λ xs. block_faults s (v.statements_in xs)) (λ x. statement_faults s (v.statement_of x))
          (λ x xs. refl) ts i c.tree-item.result c.loop-tree.is_clean c.in_ok-made.made.is_clean _ c.loop-tree-test.true
          c.tree-item.is made.1 (c.loop-tree.invariant s h).1
          ∙ ap (λ b. b && is_clean (block_faults s (v.statements_in (drop (i + 1) ts)))) (sym c.both-is_clean.ensures),
    )

pub statement-returns-in_ok-condition-in-If : goal.statement-returns-in_ok-condition-in-If
statement-returns-in_ok-condition-in-If t c = λ s h.
    let k = c.in_ok-condition-in-If in
    let test = e.expression s (v.expression_of c.in-If.condition) in
    let fits = f.typed_faults s Boolean (v.expression_of c.in-If.condition) in
    let body = v.statements_in c.in-If.then_part.items in
    let made = ap v.statement_of c.in-If.is
    ∙ built.if_made c.in-If.place c.in-If.condition c.in-If.then_part c.in-If.else_part in
    let other : IsPart s c.in-If.else_part c.match-else_part.else_part =
    elim c.match-else_part.branch [
      | statement-in-Some+in_ok-block-in-Some w ↦ some_part s _ _ _ _ _ w.else_part-is w.in-Some.is
          w.deref.ensures.value (w.in_ok-block-in-Some.ensures.statements s h)
          (w.in_ok-block-in-Some.ensures.clean s h)
      | statement-in-None w ↦ no_part s _ _ w.else_part-is w.in-None.is
    ] in (
      if_made k.condition k.then_part c.part_of-part.result.0
          ∙ ap (λ y. If y (p.block_in k.then_part.items) (p.part_in c.part_of-part.result.0)) (k.ensures.condition s h)
          ∙ ap (λ y. If test y (p.part_in c.part_of-part.result.0)) (k.ensures.statements s h
          ∙ ap (λ l. st.block s (v.statements_in l)) c.deref-in-If.ensures.value)
          ∙ ap (If test (st.block s body)) (c.part_of-part.ensures.part ∙ other.0) ∙ sym (ap (st.statement s) made),
      c.both.ensures ∙ ap (λ y. y && c.part_of-part.result.1) (k.ensures.clean s h
          ∙ ap (λ l. is_clean (fits ++ block_faults s (v.statements_in l))) c.deref-in-If.ensures.value)
          ∙ ap (λ y. is_clean (fits ++ block_faults s body) && y) (c.part_of-part.ensures.clean ∙ other.1)
          ∙ sym (clean_both (fits ++ block_faults s body) (part_faults s (v.part_in c.in-If.else_part)))
          ∙ sym (ap (λ y. is_clean (statement_faults s y)) made),
    )

pub statement-returns-in_ok-condition-in-While : goal.statement-returns-in_ok-condition-in-While
statement-returns-in_ok-condition-in-While t c = λ s h.
    let k = c.in_ok-condition-in-While in
    let fits = f.typed_faults s Boolean (v.expression_of c.in-While.condition) in
    let made = ap v.statement_of c.in-While.is
    ∙ built.while_made c.in-While.place c.in-While.condition c.in-While.body in (
      while_made k.condition k.body
          ∙ ap (λ y. While y (p.block_in k.body.items)) (k.ensures.condition s h)
          ∙ ap (While (e.expression s (v.expression_of c.in-While.condition)))
          (k.ensures.statements s h ∙ ap (λ l. st.block s (v.statements_in l)) c.deref-in-While.ensures.value)
          ∙ sym (ap (st.statement s) made),
      k.ensures.clean s h
          ∙ ap (λ l. is_clean (fits ++ block_faults s (v.statements_in l))) c.deref-in-While.ensures.value
          ∙ sym (ap (λ y. is_clean (statement_faults s y)) made),
    )

pub statement-returns-after-aborted : goal.statement-returns-after-aborted
statement-returns-after-aborted t c = λ s h.
    let j = c.in-Join in
    let other : IsPart s j.aborted c.match-aborted.aborted =
    elim c.match-aborted.branch [
      | statement-in-Some-aborted+in_ok-block-in-Some-aborted w ↦ some_part s _ _ _ _ _ w.aborted-is
          w.in-Some-aborted.is w.deref-in-Some-aborted.ensures.value
          (w.in_ok-block-in-Some-aborted.ensures.statements s h) (w.in_ok-block-in-Some-aborted.ensures.clean s h)
      | statement-in-None-aborted w ↦ no_part s _ _ w.aborted-is w.in-None-aborted.is
    ] in
    subst (λ y. IfOk c.join.result (IsJudged s y))
    (sym (ap v.statement_of j.is ∙ built.join_made j.place j.process j.into j.aborted))
    (c.join.ensures s j.place (v.part_in j.aborted) h (c.part_of-part-in-Join.ensures.part ∙ other.0)
    (c.part_of-part-in-Join.ensures.clean ∙ other.1))
