use Rattle.std.proofs.Common.{◌≡◌, ◌∙◌, ◌++◌, ap, sym, Some, None, append-nil}
use Rattle.std.proofs.lemmas.Result.{IfOk-weaker}
use Rattle.syntax.proofs.Built.{if_made, while_made, join_made}
use Rattle.syntax.specs.Tree.{If, While, Join}
use Rattle.syntax.specs.View.{statement_of, statements_in, part_in, expression_of, option_name}
use Rattle.types.specs.CallFaults.{calls, block_calls}
use Rattle.unit_faults.specs.Callers.{calls_at}
use Rattle.unit_faults.proofs.Calling.{added, block_more}
use Rattle.unit_faults.proofs.calls.+calls.Goals as goal

pub statement-returns-in-Some : goal.statement-returns-in-Some
statement-returns-in-Some t c s h =
    let n = c.args.caller.now.number in
    let old = c.args.calls.now.items in
    let seen : statement_of c.args.tree.now ≡ If c.in-If.place (expression_of c.in-If.condition)
    (statements_in c.in-If.then_part.items) (part_in (Some c.in-Some.else_part)) =
    ap statement_of c.in-If.is ∙ if_made c.in-If.place c.in-If.condition c.in-If.then_part c.in-If.else_part
    ∙ ap (λ o. If c.in-If.place (expression_of c.in-If.condition) (statements_in c.in-If.then_part.items) (part_in o))
    c.in-Some.is in
    IfOk-weaker c.block-in-Some.result _ _
    (λ _ e. added n old c.block.new.calls.items c.block-in-Some.new.calls.items
    (block_calls s (statements_in c.deref.result.now)) (block_calls s (statements_in c.deref-in-Some.result.now))
    (c.in_ok-block-in-If.ensures s h) e
    ∙ ap (λ xs. old ++ calls_at n (block_calls s (statements_in xs)
    ++ block_calls s (statements_in c.deref-in-Some.result.now))) c.deref.ensures.value
    ∙ ap (λ xs. old ++ calls_at n (block_calls s (statements_in c.in-If.then_part.items)
    ++ block_calls s (statements_in xs))) c.deref-in-Some.ensures.value
    ∙ ap (λ x. old ++ calls_at n (calls s x)) (sym seen)) (c.block-in-Some.ensures s h)

pub statement-returns-in-None : goal.statement-returns-in-None
statement-returns-in-None t c s h =
    let n = c.args.caller.now.number in
    let old = c.args.calls.now.items in
    let seen : statement_of c.args.tree.now ≡ If c.in-If.place (expression_of c.in-If.condition)
    (statements_in c.in-If.then_part.items) (part_in None) =
    ap statement_of c.in-If.is ∙ if_made c.in-If.place c.in-If.condition c.in-If.then_part c.in-If.else_part
    ∙ ap (λ o. If c.in-If.place (expression_of c.in-If.condition) (statements_in c.in-If.then_part.items) (part_in o))
    c.in-None.is in
    c.in_ok-block-in-If.ensures s h
    ∙ ap (λ xs. old ++ calls_at n (block_calls s (statements_in xs))) c.deref.ensures.value
    ∙ ap (λ ks. old ++ calls_at n ks) (sym (append-nil (block_calls s (statements_in c.in-If.then_part.items))))
    ∙ ap (λ x. old ++ calls_at n (calls s x)) (sym seen)

pub statement-returns-in-While : goal.statement-returns-in-While
statement-returns-in-While t c s h =
    let n = c.args.caller.now.number in
    let old = c.args.calls.now.items in
    let seen : statement_of c.args.tree.now ≡ While c.in-While.place (expression_of c.in-While.condition)
    (statements_in c.in-While.body.items) =
    ap statement_of c.in-While.is ∙ while_made c.in-While.place c.in-While.condition c.in-While.body in
    IfOk-weaker c.block-in-While.result _ _
    (λ _ e. e ∙ ap (λ xs. old ++ calls_at n (block_calls s (statements_in xs))) c.deref-in-While.ensures.value
    ∙ ap (λ x. old ++ calls_at n (calls s x)) (sym seen)) (c.block-in-While.ensures s h)

pub statement-returns-in-Some-aborted : goal.statement-returns-in-Some-aborted
statement-returns-in-Some-aborted t c s h =
    let n = c.args.caller.now.number in
    let old = c.args.calls.now.items in
    let seen : statement_of c.args.tree.now ≡ Join c.in-Join.place (expression_of c.in-Join.process)
    (option_name c.in-Join.into) (part_in (Some c.in-Some-aborted.aborted)) =
    ap statement_of c.in-Join.is ∙ join_made c.in-Join.place c.in-Join.process c.in-Join.into c.in-Join.aborted
    ∙ ap (λ o. Join c.in-Join.place (expression_of c.in-Join.process) (option_name c.in-Join.into) (part_in o))
    c.in-Some-aborted.is in
    IfOk-weaker c.block-in-Some-aborted.result _ _
    (λ _ e. e ∙ ap (λ xs. old ++ calls_at n (block_calls s (statements_in xs))) c.deref-in-Some-aborted.ensures.value
    ∙ ap (λ x. old ++ calls_at n (calls s x)) (sym seen)) (c.block-in-Some-aborted.ensures s h)

pub block-loop-tree-preserved : goal.block-loop-tree-preserved
block-loop-tree-preserved t c s h =
    block_more s c.args.caller.now.number c.args.statements.now c.loop-tree.tree-index c.tree-item.result
    c.args.calls.now.items c.loop-tree.calls.items c.statement.new.calls.items c.loop-tree-test.true c.tree-item.is
    (c.loop-tree.invariant s h) (c.in_ok-statement.ensures s h)
