use Rattle.std.proofs.Common.{◌≡◌, rules}
use Rattle.source_sameness.proofs.Rows.{same_if, same_if_else, same_inner, same_join, same_while}
use Rattle.source_sameness.proofs.statements.+statements.Goals as goal

pub same_statement-returns-then-same_expression : goal.same_statement-returns-then-same_expression
same_statement-returns-then-same_expression t c = λ same.
    same_while _ _ c.in-While-While.e c.in-While-While.f
    (c.same_expression-in-While-While.ensures c.if-same_expression.true) c.in-While-While.x c.in-While-While.y
    (same_inner _ _ c.in-While-While.x c.in-While-While.y c.deref-then-same_expression.ensures.value
    c.deref-then-same_expression-2.ensures.value (c.same_block-then-same_expression.ensures same))
    c.in-While-While.is-0 c.in-While-While.is-1

pub same_statement-returns-in-None-None : goal.same_statement-returns-in-None-None
same_statement-returns-in-None-None t c = λ same.
    same_if _ _ c.in-If-If.e c.in-If-If.f (c.same_expression-in-If-If.ensures c.if-not-same_expression.false)
    c.in-If-If.x c.in-If-If.y
    (same_inner _ _ c.in-If-If.x c.in-If-If.y c.deref.ensures.value c.deref-in-If-If.ensures.value
    (c.same_block.ensures c.if-not-same_block.false))
    c.in-If-If.v c.in-If-If.w c.in-If-If.is-0 c.in-If-If.is-1 c.in-None-None.is-0 c.in-None-None.is-1

pub same_statement-returns-in-Some-Some : goal.same_statement-returns-in-Some-Some
same_statement-returns-in-Some-Some t c = λ same.
    same_if_else _ _ c.in-If-If.e c.in-If-If.f (c.same_expression-in-If-If.ensures c.if-not-same_expression.false)
    c.in-If-If.x c.in-If-If.y
    (same_inner _ _ c.in-If-If.x c.in-If-If.y c.deref.ensures.value c.deref-in-If-If.ensures.value
    (c.same_block.ensures c.if-not-same_block.false))
    c.in-If-If.v c.in-If-If.w c.in-Some-Some.v c.in-Some-Some.w c.in-If-If.is-0 c.in-If-If.is-1
    c.in-Some-Some.is-0 c.in-Some-Some.is-1
    (same_inner _ _ c.in-Some-Some.v c.in-Some-Some.w c.deref-in-Some-Some.ensures.value
    c.deref-in-Some-Some-2.ensures.value (c.same_block-in-Some-Some.ensures same))

pub same_statement-returns-in-Some-Some-2 : goal.same_statement-returns-in-Some-Some-2
same_statement-returns-in-Some-Some-2 t c = λ same.
    let into : c.in-Join-Join.i ≡ c.in-Join-Join.j = search rules in
    same_join _ _ c.in-Join-Join.e c.in-Join-Join.f
    (c.same_expression-in-Join-Join.ensures c.if-not-same_expression-2.false) c.in-Join-Join.i c.in-Join-Join.j
    c.in-Join-Join.x c.in-Join-Join.y c.in-Some-Some-2.x c.in-Some-Some-2.y into c.in-Join-Join.is-0
    c.in-Join-Join.is-1 c.in-Some-Some-2.is-0 c.in-Some-Some-2.is-1
    (same_inner _ _ c.in-Some-Some-2.x c.in-Some-Some-2.y c.deref-in-Some-Some-2-2.ensures.value
    c.deref-in-Some-Some-2-3.ensures.value (c.same_block-in-Some-Some-2.ensures same))
