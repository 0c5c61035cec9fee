use Rattle.std.proofs.Common.{arith, length-append, ◌≡◌, length, refl, sym, ap, subst, ◌∙◌}
use Rattle.program.specs.declared.statement.Statement.{If as IfOf, Join as JoinOf}
use Rattle.program.specs.declared.statement.Statement.TheBlock.{hidden-the_row-Statement-0}
use Rattle.program.specs.Trees.{If, While, Join, NoPart, SomePart}
use Rattle.program.specs.Views.{expression_of, statement_of, block_in, block_of}
use Rattle.lowering.specs.Expressions.{expression_code}
use Rattle.lowering.specs.Statements.{block_code}
use Rattle.codegen.specs.Sites.{said_at, setting_at}
use Rattle.codegen.proofs.Patches.{patch_if, patch_then, then_place, patch_else, patch_while, patch_join, then_less}
use Rattle.codegen.proofs.Patches.{else_made, if_block_fits, if_end_fits, while_block_fits, while_end_fits}
use Rattle.codegen.proofs.Patches.{then_block_fits, then_end_fits, join_first_fits, join_block_fits, join_end_fits}
use Rattle.codegen.proofs.Rows.{inner_block, first_fits, Makes}
use Rattle.codegen.proofs.Failing.{failed, no_memory}
use Rattle.codegen.proofs.statement.+statements.Goals as goal

pub if_then-returns : goal.if_then-returns
if_then-returns t c =
    patch_if _ _ (block_code (setting_at c.args.site.now) (block_in c.args.then_part.now)) _ _ _ _ _ _
    c.in_ok-expression.ensures (c.len-test.ensures ∙ c.expression.new.code.ok.0) c.in_ok-append.ensures
    c.in_ok-block.ensures
    (c.in_ok-end.ensures.0 ∙ ap length c.deref.ensures.value)

pub while_do-returns : goal.while_do-returns
while_do-returns t c =
    patch_while _ _ (block_code (setting_at c.args.site.now) (block_in c.args.body.now)) _ _ _ _ _ _ _ _
    (c.in_ok-start.ensures.0 ∙ ap length c.deref.ensures.value)
    c.in_ok-expression.ensures (c.len-test.ensures ∙ c.expression.new.code.ok.0) c.in_ok-append.ensures
    c.in_ok-block.ensures c.in_ok-append-2.ensures
    (c.in_ok-end.ensures.0 ∙ ap length c.deref-2.ensures.value)

pub statement-returns-in-None : goal.statement-returns-in-None
statement-returns-in-None t c =
    let e = expression_of c.in-If.condition in
    let first = inner_block c.deref-in-None.result.now c.in-If.then_part c.deref-in-None.ensures.value in
    let same : If e (block_in c.deref-in-None.result.now) NoPart ≡ statement_of c.args.s.now =
    ap (λ b. If e b NoPart) first
    ∙ ap (λ p. statement_of (IfOf c.in-If.condition c.in-If.then_part p)) (sym c.in-None.is)
    ∙ ap statement_of (sym c.in-If.is) in
    subst (λ s. Makes (setting_at c.args.site.now) c.args.code.now.items c.if_then.new.code.items c.if_then.result
    s)
    same c.if_then.ensures

pub statement-returns-in-While : goal.statement-returns-in-While
statement-returns-in-While t c =
    let e = expression_of c.in-While.condition in
    let same : While e (block_in c.deref-in-While.result.now) ≡ statement_of c.args.s.now =
    ap (λ b. While e b) (inner_block c.deref-in-While.result.now c.in-While.body c.deref-in-While.ensures.value)
    ∙ ap statement_of (sym c.in-While.is) in
    subst (λ s. Makes (setting_at c.args.site.now) c.args.code.now.items c.while_do.new.code.items
    c.while_do.result s)
    same c.while_do.ensures

pub statement-returns-in-Wait : goal.statement-returns-in-Wait
statement-returns-in-Wait t c =
    subst (λ s. Makes (setting_at c.args.site.now) c.args.code.now.items c.wait_statement.new.code.items
    c.wait_statement.result s) (ap statement_of (sym c.in-Wait.is)) c.wait_statement.ensures

pub statement-returns-in-Broadcast : goal.statement-returns-in-Broadcast
statement-returns-in-Broadcast t c =
    subst (λ s. Makes (setting_at c.args.site.now) c.args.code.now.items c.broadcast_statement.new.code.items
    c.broadcast_statement.result s) (ap statement_of (sym c.in-Broadcast.is)) c.broadcast_statement.ensures

pub then_passed-returns : goal.then_passed-returns
then_passed-returns t c =
    let fa = block_code (setting_at c.args.site.now) (block_in c.args.then_part.now) in (
      patch_then _ _ fa _ _ _ _ _ _ _ c.in_ok-expression.ensures (c.len-test.ensures ∙ c.expression.new.code.ok.0)
          c.in_ok-append.ensures c.in_ok-block.ensures
          c.in_ok-append-2.ensures (c.in_ok-other.ensures.0 ∙ ap length c.deref.ensures.value),
      then_place _ _ fa _ _ _ _ _ c.in_ok-expression.ensures c.in_ok-append.ensures c.in_ok-block.ensures
          (c.len-passed.ensures ∙ c.block.new.code.ok.0),
    )

pub else_passed-returns : goal.else_passed-returns
else_passed-returns t c =
    patch_else _ (block_code (setting_at c.args.site.now) (block_in c.args.else_part.now)
    (length c.args.code.now.items)) _ _ _ c.requires.there c.in_ok-block.ensures (c.in_ok-behind.ensures.0
    ∙ ap length c.deref.ensures.value)

pub join_aborted-returns : goal.join_aborted-returns
join_aborted-returns t c =
    patch_join _ (expression_code (said_at c.args.site.now) (expression_of c.args.handle.now)) _
    (block_code (setting_at c.args.site.now) (block_in c.args.aborted.now)) _ _ _ _ _ _ _ refl refl
    c.in_ok-join_first.ensures (c.len-passed.ensures ∙ c.join_first.new.code.ok.0) c.in_ok-append.ensures
    c.in_ok-block.ensures
    (c.in_ok-end.ensures.0 ∙ ap length c.deref.ensures.value)

pub statement-returns-in-Some-aborted : goal.statement-returns-in-Some-aborted
statement-returns-in-Some-aborted t c =
    let e = expression_of c.in-Join.handle in
    let same : Join e c.in-Join.into (SomePart (block_in c.deref-in-Some-aborted.result.now))
    ≡ statement_of c.args.s.now =
    ap (λ b. Join e c.in-Join.into (SomePart b))
    (inner_block c.deref-in-Some-aborted.result.now c.in-Some-aborted.aborted
    c.deref-in-Some-aborted.ensures.value)
    ∙ ap (λ p. statement_of (JoinOf c.in-Join.handle c.in-Join.into p)) (sym c.in-Some-aborted.is)
    ∙ ap statement_of (sym c.in-Join.is) in
    subst (λ s. Makes (setting_at c.args.site.now) c.args.code.now.items c.join_aborted.new.code.items
    c.join_aborted.result s) same c.join_aborted.ensures

pub statement-returns-in-None-aborted : goal.statement-returns-in-None-aborted
statement-returns-in-None-aborted t c =
    let same : Join (expression_of c.in-Join.handle) c.in-Join.into NoPart ≡ statement_of c.args.s.now =
    ap (λ p. statement_of (JoinOf c.in-Join.handle c.in-Join.into p)) (sym c.in-None-aborted.is)
    ∙ ap statement_of (sym c.in-Join.is) in
    subst (λ s. Makes (setting_at c.args.site.now) c.args.code.now.items c.join_statement.new.code.items
    c.join_statement.result s) same c.join_statement.ensures

pub block-returns-in_err-statement : goal.block-returns-in_err-statement
block-returns-in_err-statement t c =
    failed c.from_residual-in_err-statement.result c.in_err-statement.field-0.0 _ _ _
    c.from_residual-in_err-statement.ensures c.in_err-statement.ensures
    (first_fits (setting_at c.args.site.now) c.loop-s.code.items c.args.code.now.items _ c.args.statements.now
    c.loop-s.s-index c.s-item.result c.loop-s-test.true c.s-item.is c.loop-s.invariant)

pub block-returns-in_err-room : goal.block-returns-in_err-room
block-returns-in_err-room t c =
    let fits =
    first_fits (setting_at c.args.site.now) c.loop-s.code.items c.args.code.now.items _ c.args.statements.now
    c.loop-s.s-index c.s-item.result c.loop-s-test.true c.s-item.is c.loop-s.invariant in
    failed c.from_residual.result c.in_err-room.field-0.0 _ _ _ c.from_residual.ensures c.in_err-room.ensures
    (omega (arith, fits, ap length c.deref.ensures.value))

pub statement-returns-in_err-passed-in-Some : goal.statement-returns-in_err-passed-in-Some
statement-returns-in_err-passed-in-Some t c =
    let e = expression_of c.in-If.condition in
    let first = inner_block c.deref.result.now c.in-If.then_part c.deref.ensures.value in
    let other = block_of (hidden-the_row-Statement-0 c.in-Some.else_part) in
    let same : If e (block_in c.deref.result.now) (SomePart other) ≡ statement_of c.args.s.now =
    ap (λ b. If e b (SomePart other)) first
    ∙ ap (λ p. statement_of (IfOf c.in-If.condition c.in-If.then_part p)) (sym c.in-Some.is)
    ∙ ap statement_of (sym c.in-If.is) in
    let set = setting_at c.args.site.now in
    let less =
    then_less (expression_code set.program e) (block_code set (block_in c.deref.result.now)) (block_code set other)
    (length c.args.code.now.items) in
    subst (λ s. Makes set c.args.code.now.items c.then_passed.new.code.items c.from_residual.result s) same
    (failed c.from_residual.result c.in_err-passed-in-Some.field-0.0 _ _ _ c.from_residual.ensures
    c.in_err-passed-in-Some.ensures (omega arith))

pub statement-returns-in_ok-passed-in-Some : goal.statement-returns-in_ok-passed-in-Some
statement-returns-in_ok-passed-in-Some t c =
    let e = expression_of c.in-If.condition in
    let first = inner_block c.deref.result.now c.in-If.then_part c.deref.ensures.value in
    let second = inner_block c.deref-in-Some.result.now c.in-Some.else_part c.deref-in-Some.ensures.value in
    let same : If e (block_in c.deref.result.now) (SomePart (block_in c.deref-in-Some.result.now))
    ≡ statement_of c.args.s.now =
    ap (λ b. If e b (SomePart (block_in c.deref-in-Some.result.now))) first
    ∙ ap (λ b. If e (block_of (hidden-the_row-Statement-0 c.in-If.then_part)) (SomePart b)) second
    ∙ ap (λ p. statement_of (IfOf c.in-If.condition c.in-If.then_part p)) (sym c.in-Some.is)
    ∙ ap statement_of (sym c.in-If.is) in
    let set = setting_at c.args.site.now in
    subst (λ s. Makes set c.args.code.now.items c.else_passed.new.code.items c.else_passed.result s) same
    (else_made c.else_passed.result c.args.code.now.items (expression_code set.program e)
    (block_code set (block_in c.deref.result.now)) (block_code set (block_in c.deref-in-Some.result.now))
    c.then_passed.new.code.items c.else_passed.new.code.items c.in_ok-passed-in-Some.passed
    c.in_ok-passed-in-Some.ensures.0 c.in_ok-passed-in-Some.ensures.1 c.else_passed.ensures)

pub if_then-returns-in_err-expression : goal.if_then-returns-in_err-expression
if_then-returns-in_err-expression t c =
    no_memory c.from_residual.result _ _ c.from_residual.ensures

pub if_then-returns-in_err-append : goal.if_then-returns-in_err-append
if_then-returns-in_err-append t c =
    no_memory c.from_residual-in_err-append.result _ _ c.from_residual-in_err-append.ensures

pub if_then-returns-in_err-block : goal.if_then-returns-in_err-block
if_then-returns-in_err-block t c =
    failed c.from_residual-in_err-block.result c.in_err-block.field-0.0 _ _ _ c.from_residual-in_err-block.ensures
    c.in_err-block.ensures
    (if_block_fits _ _ (block_code (setting_at c.args.site.now) (block_in c.args.then_part.now)) _ _ _
    c.in_ok-expression.ensures c.in_ok-append.ensures)

pub if_then-returns-in_err-end : goal.if_then-returns-in_err-end
if_then-returns-in_err-end t c =
    failed c.from_residual-in_err-end.result c.in_err-end.field-0.0 _ _ _ c.from_residual-in_err-end.ensures
    c.in_err-end.ensures
    (if_end_fits _ _ (block_code (setting_at c.args.site.now) (block_in c.args.then_part.now)) _ _ _ _ _
    c.in_ok-expression.ensures c.in_ok-append.ensures c.in_ok-block.ensures (ap length c.deref.ensures.value))

pub then_passed-returns-in_err-expression : goal.then_passed-returns-in_err-expression
then_passed-returns-in_err-expression t c =
    no_memory c.from_residual.result _ _ c.from_residual.ensures

pub then_passed-returns-in_err-append : goal.then_passed-returns-in_err-append
then_passed-returns-in_err-append t c =
    no_memory c.from_residual-in_err-append.result _ _ c.from_residual-in_err-append.ensures

pub then_passed-returns-in_err-append-2 : goal.then_passed-returns-in_err-append-2
then_passed-returns-in_err-append-2 t c =
    no_memory c.from_residual-in_err-append-2.result _ _ c.from_residual-in_err-append-2.ensures

pub then_passed-returns-in_err-block : goal.then_passed-returns-in_err-block
then_passed-returns-in_err-block t c =
    failed c.from_residual-in_err-block.result c.in_err-block.field-0.0 _ _ _ c.from_residual-in_err-block.ensures
    c.in_err-block.ensures
    (then_block_fits _ _ (block_code (setting_at c.args.site.now) (block_in c.args.then_part.now)) _ _ _
    c.in_ok-expression.ensures c.in_ok-append.ensures)

pub then_passed-returns-in_err-other : goal.then_passed-returns-in_err-other
then_passed-returns-in_err-other t c =
    failed c.from_residual-in_err-other.result c.in_err-other.field-0.0 _ _ _ c.from_residual-in_err-other.ensures
    c.in_err-other.ensures
    (then_end_fits _ _ (block_code (setting_at c.args.site.now) (block_in c.args.then_part.now)) _ _ _ _ _ _ _
    c.in_ok-expression.ensures c.in_ok-append.ensures c.in_ok-block.ensures c.in_ok-append-2.ensures
    (ap length c.deref.ensures.value))

pub else_passed-returns-in_err-block : goal.else_passed-returns-in_err-block
else_passed-returns-in_err-block t c =
    failed c.from_residual.result c.in_err-block.field-0.0 _ _ _ c.from_residual.ensures c.in_err-block.ensures
    (omega arith)

pub else_passed-returns-in_err-behind : goal.else_passed-returns-in_err-behind
else_passed-returns-in_err-behind t c =
    failed c.from_residual-in_err-behind.result c.in_err-behind.field-0.0 _ _ _
    c.from_residual-in_err-behind.ensures c.in_err-behind.ensures
    (omega (
      arith,
      ap length c.deref.ensures.value,
      ap length c.in_ok-block.ensures ∙ length-append
          c.args.code.now.items _,
    ))

pub while_do-returns-in_err-start : goal.while_do-returns-in_err-start
while_do-returns-in_err-start t c =
    failed c.from_residual.result c.in_err-start.field-0.0 _ _ _ c.from_residual.ensures c.in_err-start.ensures
    (omega (arith, ap length c.deref.ensures.value))

pub while_do-returns-in_err-expression : goal.while_do-returns-in_err-expression
while_do-returns-in_err-expression t c =
    no_memory c.from_residual-in_err-expression.result _ _ c.from_residual-in_err-expression.ensures

pub while_do-returns-in_err-append : goal.while_do-returns-in_err-append
while_do-returns-in_err-append t c =
    no_memory c.from_residual-in_err-append.result _ _ c.from_residual-in_err-append.ensures

pub while_do-returns-in_err-append-2 : goal.while_do-returns-in_err-append-2
while_do-returns-in_err-append-2 t c =
    no_memory c.from_residual-in_err-append-2.result _ _ c.from_residual-in_err-append-2.ensures

pub while_do-returns-in_err-block : goal.while_do-returns-in_err-block
while_do-returns-in_err-block t c =
    failed c.from_residual-in_err-block.result c.in_err-block.field-0.0 _ _ _ c.from_residual-in_err-block.ensures
    c.in_err-block.ensures
    (while_block_fits _ _ (block_code (setting_at c.args.site.now) (block_in c.args.body.now)) _ _ _
    c.in_ok-expression.ensures c.in_ok-append.ensures)

pub while_do-returns-in_err-end : goal.while_do-returns-in_err-end
while_do-returns-in_err-end t c =
    failed c.from_residual-in_err-end.result c.in_err-end.field-0.0 _ _ _ c.from_residual-in_err-end.ensures
    c.in_err-end.ensures
    (while_end_fits _ _ (block_code (setting_at c.args.site.now) (block_in c.args.body.now)) _ _ _ _ _ _ _
    c.in_ok-expression.ensures c.in_ok-append.ensures c.in_ok-block.ensures c.in_ok-append-2.ensures
    (ap length c.deref-2.ensures.value))

pub join_aborted-returns-in_err-join_first : goal.join_aborted-returns-in_err-join_first
join_aborted-returns-in_err-join_first t c =
    failed c.from_residual.result c.in_err-join_first.field-0.0 _ _ _ c.from_residual.ensures
    c.in_err-join_first.ensures
    (join_first_fits c.args.code.now.items
    (expression_code (said_at c.args.site.now) (expression_of c.args.handle.now)) _ _)

pub join_aborted-returns-in_err-append : goal.join_aborted-returns-in_err-append
join_aborted-returns-in_err-append t c =
    no_memory c.from_residual-in_err-append.result _ _ c.from_residual-in_err-append.ensures

pub join_aborted-returns-in_err-block : goal.join_aborted-returns-in_err-block
join_aborted-returns-in_err-block t c =
    failed c.from_residual-in_err-block.result c.in_err-block.field-0.0 _ _ _ c.from_residual-in_err-block.ensures
    c.in_err-block.ensures
    (join_block_fits _ (expression_code (said_at c.args.site.now)
    (expression_of c.args.handle.now)) _
    (block_code (setting_at c.args.site.now) (block_in c.args.aborted.now)) _ _ _ _ _ refl refl
    c.in_ok-join_first.ensures c.in_ok-append.ensures)

pub join_aborted-returns-in_err-end : goal.join_aborted-returns-in_err-end
join_aborted-returns-in_err-end t c =
    failed c.from_residual-in_err-end.result c.in_err-end.field-0.0 _ _ _ c.from_residual-in_err-end.ensures
    c.in_err-end.ensures
    (join_end_fits _ (expression_code (said_at c.args.site.now) (expression_of c.args.handle.now)) _
    (block_code (setting_at c.args.site.now) (block_in c.args.aborted.now)) _ _ _ _ _ _ _ refl refl
    c.in_ok-join_first.ensures c.in_ok-append.ensures c.in_ok-block.ensures (ap length c.deref.ensures.value))
