use Rattle.std.proofs.Common.{◌≡◌, ◌∙◌, [], ◌∷◌, arith, rules, ap, sym}
use Rattle.std.proofs.lemmas.Result.{err_from_is_err_and}
use Rattle.scanner.specs.declared.token.Keyword.TheVariants as K
use Rattle.scanner.specs.declared.token.Sign.TheVariants as S
use Rattle.grammar.specs.Machine.{AWord, AMark, AnInto, AnElse, AnAborted, Statements, Closed}
use Rattle.syntax.specs.Lexeme.{Word}
use Rattle.syntax.specs.Tree.{If, While, Join, Then, NoStatements}
use Rattle.syntax.specs.View.{expression_of}
use Rattle.syntax.proofs.Built.{if_made, while_made, join_made}
use Rattle.grammar.specs.Reading.{lexeme_at}
use Rattle.grammar.proofs.Joins.{here, then1, fail1, then3, fail3, then5, fail5, leads_as, close, done}
use Rattle.token_cursor.specs.Ahead.{ahead}
use Rattle.parser.specs.Starts.{start_lexeme}
use Rattle.parser.specs.Steps.{add_statement}
use Rattle.parser.proofs.Loops.{goes_on, ends, chain_statements}
use Rattle.parser.proofs.Steps.{then_takes, fail_rejects, then_expression, fail_expression, then_condition}
use Rattle.parser.proofs.Steps.{fail_condition}
use Rattle.parser.proofs.Begun.{ifs, whiles, joins, aborts}
use Rattle.parser.proofs.statement.+statements.Goals as goal

pub aborted_statements-returns-in-Ok-clause-ok : goal.aborted_statements-returns-in-Ok-clause-ok
aborted_statements-returns-in-Ok-clause-ok t c =
    let e : lexeme_at (ahead c.args.parser.now) ≡ Word K.Aborted = search rules in
    done (close (then_takes c.in-Ok.ensures.ok
    (then1 c.in_ok-part.ensures.ok (aborts e c.in_ok-inner.ensures.rest
    (omega (arith, c.in_ok-inner.ensures.ok.0, c.in_ok-inner.ensures.ok.1)))
    (omega (arith, c.in_ok-inner.ensures.ok.0, c.in_ok-inner.ensures.ok.1)))
    (omega (arith, c.in_ok-inner.ensures.ok.0, c.in_ok-inner.ensures.ok.1))))

pub if_statement-returns-in_err-condition-clause-err : goal.if_statement-returns-in_err-condition-clause-err
if_statement-returns-in_err-condition-clause-err t c =
    let p = err_from_is_err_and c.from_residual-in_err-condition.result c.from_residual-in_err-condition.ensures.1
    in
    rw (p.1, p.2) (fail_condition c.in_err-condition.ensures.err
    (ifs c.requires.first c.in_ok-inner.ensures.rest
    (omega (arith, c.in_ok-inner.ensures.ok.0, c.in_ok-inner.ensures.ok.1)))
    (omega (arith, c.in_ok-inner.ensures.ok.0, c.in_ok-inner.ensures.ok.1)))

pub if_statement-returns-in-Err-clause-err : goal.if_statement-returns-in-Err-clause-err
if_statement-returns-in-Err-clause-err t c =
    let p = err_from_is_err_and c.refused.result c.refused.ensures in
    rw (p.1, p.2) (fail5 c.in-Err.ensures.err
    (then_condition (λ x u. (Then (If c.args.place x u.0 u.1.0) u.1.1.1.1.1.0, tt))
    (expression_of c.in_ok-condition.condition) c.in_ok-condition.ensures.ok
    (ifs c.requires.first c.in_ok-inner.ensures.rest
    (omega (arith, c.in_ok-inner.ensures.ok.0, c.in_ok-inner.ensures.ok.1)))
    (omega (arith, c.in_ok-inner.ensures.ok.0, c.in_ok-inner.ensures.ok.1))) (omega arith))

pub if_statement-returns-clause-ok : goal.if_statement-returns-clause-ok
if_statement-returns-clause-ok t c =
    leads_as (λ y. ap (λ s. (Then s y.0, tt))
    (sym (if_made c.args.place c.in_ok-condition.condition c.in-Ok.parts.0 c.in-Ok.parts.1)))
    (then5 c.in-Ok.ensures.ok (then_condition
    (λ x u. (Then (If c.args.place x u.0 u.1.0) u.1.1.1.1.1.0, tt)) (expression_of c.in_ok-condition.condition)
    c.in_ok-condition.ensures.ok (ifs c.requires.first c.in_ok-inner.ensures.rest
    (omega (arith, c.in_ok-inner.ensures.ok.0, c.in_ok-inner.ensures.ok.1)))
    (omega (arith, c.in_ok-inner.ensures.ok.0, c.in_ok-inner.ensures.ok.1))) (omega arith))

pub branches-returns-in_err-then_part-clause-err : goal.branches-returns-in_err-then_part-clause-err
branches-returns-in_err-then_part-clause-err t c =
    let p = err_from_is_err_and c.from_residual.result c.from_residual.ensures.1 in
    rw (p.1, p.2) (fail1 c.in_err-then_part.ensures.err
    (here {σ = Statements ∷ AnElse ∷ AWord K.Endif ∷ Closed ∷ AMark S.Semicolon ∷ []}) (omega arith))

pub branches-returns-in-Err-clause-err : goal.branches-returns-in-Err-clause-err
branches-returns-in-Err-clause-err t c =
    let p = err_from_is_err_and c.refused.result c.refused.ensures
    in
    rw (p.1, p.2) (fail1 c.in-Err.ensures.err
    (then1 c.in_ok-then_part.ensures.ok (here
    {σ = Statements ∷ AnElse ∷ AWord K.Endif ∷ Closed ∷ AMark S.Semicolon ∷ []}) (omega arith)) (omega arith))

pub branches-returns-in-Err-ending-clause-err : goal.branches-returns-in-Err-ending-clause-err
branches-returns-in-Err-ending-clause-err t c =
    let p = err_from_is_err_and c.refused-in-Err-ending.result c.refused-in-Err-ending.ensures in
    rw (p.1, p.2) (fail3 c.in-Err-ending.ensures.err
    (then1 c.in-Ok.ensures.ok (then1 c.in_ok-then_part.ensures.ok
    (here {σ = Statements ∷ AnElse ∷ AWord K.Endif ∷ Closed ∷ AMark S.Semicolon ∷ []}) (omega arith))
    (omega arith)) (omega arith))

pub branches-returns-in-Ok-ending-clause-ok : goal.branches-returns-in-Ok-ending-clause-ok
branches-returns-in-Ok-ending-clause-ok t c =
    done (then3 c.in-Ok-ending.ensures.ok (then1 c.in-Ok.ensures.ok
    (then1 c.in_ok-then_part.ensures.ok (here
    {σ = Statements ∷ AnElse ∷ AWord K.Endif ∷ Closed ∷ AMark S.Semicolon ∷ []}) (omega arith)) (omega arith))
    (omega arith))

pub while_statement-returns-in_err-condition-clause-err : goal.while_statement-returns-in_err-condition-clause-err
while_statement-returns-in_err-condition-clause-err t c =
    let p = err_from_is_err_and c.from_residual-in_err-condition.result c.from_residual-in_err-condition.ensures.1
    in
    rw (p.1, p.2) (fail_condition c.in_err-condition.ensures.err
    (whiles c.requires.first c.in_ok-inner.ensures.rest
    (omega (arith, c.in_ok-inner.ensures.ok.0, c.in_ok-inner.ensures.ok.1)))
    (omega (arith, c.in_ok-inner.ensures.ok.0, c.in_ok-inner.ensures.ok.1)))

pub while_statement-returns-in-Err-clause-err : goal.while_statement-returns-in-Err-clause-err
while_statement-returns-in-Err-clause-err t c =
    let p = err_from_is_err_and c.refused.result c.refused.ensures in
    rw (p.1, p.2) (fail1 c.in-Err.ensures.err
    (then_condition (λ x u. (Then (While c.args.place x u.0) u.1.1.1.1.0, tt))
    (expression_of c.in_ok-condition.condition) c.in_ok-condition.ensures.ok
    (whiles c.requires.first c.in_ok-inner.ensures.rest
    (omega (arith, c.in_ok-inner.ensures.ok.0, c.in_ok-inner.ensures.ok.1)))
    (omega (arith, c.in_ok-inner.ensures.ok.0, c.in_ok-inner.ensures.ok.1)))
    (omega (arith, c.in_ok-inner.ensures.ok.0, c.in_ok-inner.ensures.ok.1)))

pub while_statement-returns-in-Err-ending-clause-err : goal.while_statement-returns-in-Err-ending-clause-err
while_statement-returns-in-Err-ending-clause-err t c =
    let p = err_from_is_err_and c.refused-in-Err-ending.result c.refused-in-Err-ending.ensures in
    rw (p.1, p.2) (fail3 c.in-Err-ending.ensures.err
    (then1 c.in-Ok.ensures.ok (then_condition (λ x u. (Then (While c.args.place x u.0) u.1.1.1.1.0, tt))
    (expression_of c.in_ok-condition.condition) c.in_ok-condition.ensures.ok
    (whiles c.requires.first c.in_ok-inner.ensures.rest
    (omega (arith, c.in_ok-inner.ensures.ok.0, c.in_ok-inner.ensures.ok.1)))
    (omega (arith, c.in_ok-inner.ensures.ok.0, c.in_ok-inner.ensures.ok.1)))
    (omega (arith, c.in_ok-inner.ensures.ok.0, c.in_ok-inner.ensures.ok.1))) (omega arith))

pub while_statement-returns-in-Ok-ending-clause-ok : goal.while_statement-returns-in-Ok-ending-clause-ok
while_statement-returns-in-Ok-ending-clause-ok t c =
    leads_as (λ y. ap (λ s. (Then s y.0, tt))
    (sym (while_made c.args.place c.in_ok-condition.condition c.in-Ok.body)))
    (then3 c.in-Ok-ending.ensures.ok (then1 c.in-Ok.ensures.ok
    (then_condition (λ x u. (Then (While c.args.place x u.0) u.1.1.1.1.0, tt))
    (expression_of c.in_ok-condition.condition) c.in_ok-condition.ensures.ok
    (whiles c.requires.first c.in_ok-inner.ensures.rest
    (omega (arith, c.in_ok-inner.ensures.ok.0, c.in_ok-inner.ensures.ok.1)))
    (omega (arith, c.in_ok-inner.ensures.ok.0, c.in_ok-inner.ensures.ok.1)))
    (omega (arith, c.in_ok-inner.ensures.ok.0, c.in_ok-inner.ensures.ok.1))) (omega arith))

pub join-returns-in_err-process-clause-err : goal.join-returns-in_err-process-clause-err
join-returns-in_err-process-clause-err t c =
    let p = err_from_is_err_and c.from_residual.result c.from_residual.ensures.1 in
    rw (p.1, p.2) (fail_expression c.in_err-process.ensures.err
    (joins c.requires.first c.pass.ensures.rest c.requires.depth) (omega arith))

pub join-returns-in-Err-clause-err : goal.join-returns-in-Err-clause-err
join-returns-in-Err-clause-err t c =
    let p = err_from_is_err_and c.refused.result c.refused.ensures in
    rw (p.1, p.2) (fail3 c.in-Err.ensures.err
    (then_expression (λ x u. (Then (Join c.args.place x u.0 u.1.0) u.1.1.1.0, tt))
    (expression_of c.in_ok-process.process) c.in_ok-process.ensures.ok
    (joins c.requires.first c.pass.ensures.rest c.requires.depth) (omega arith)) (omega arith))

pub join-returns-clause-ok : goal.join-returns-clause-ok
join-returns-clause-ok t c =
    leads_as (λ y. ap (λ s. (Then s y.0, tt))
    (sym (join_made c.args.place c.in_ok-process.process c.in-Ok.parts.0 c.in-Ok.parts.1)))
    (then3 c.in-Ok.ensures.ok (then_expression (λ x u. (Then (Join c.args.place x u.0 u.1.0) u.1.1.1.0, tt))
    (expression_of c.in_ok-process.process) c.in_ok-process.ensures.ok
    (joins c.requires.first c.pass.ensures.rest c.requires.depth) (omega arith)) (omega arith))

pub join_parts-returns-in_err-into-clause-err : goal.join_parts-returns-in_err-into-clause-err
join_parts-returns-in_err-into-clause-err t c =
    let p = err_from_is_err_and c.from_residual.result c.from_residual.ensures.1 in
    rw (p.1, p.2) (fail1 c.in_err-into.ensures.err (here {σ = AnInto ∷ AnAborted ∷ AMark S.Semicolon ∷ []})
    (omega arith))

pub join_parts-returns-in_err-aborted-clause-err : goal.join_parts-returns-in_err-aborted-clause-err
join_parts-returns-in_err-aborted-clause-err t c =
    let p = err_from_is_err_and c.from_residual-in_err-aborted.result c.from_residual-in_err-aborted.ensures.1 in
    rw (p.1, p.2) (fail1 c.in_err-aborted.ensures.err
    (then1 c.in_ok-into.ensures.ok (here {σ = AnInto ∷ AnAborted ∷ AMark S.Semicolon ∷ []}) (omega arith))
    (omega arith))

pub join_parts-returns-in_err-expect_sign-clause-err : goal.join_parts-returns-in_err-expect_sign-clause-err
join_parts-returns-in_err-expect_sign-clause-err t c =
    let p = err_from_is_err_and c.from_residual-in_err-expect_sign.result
    c.from_residual-in_err-expect_sign.ensures.1 in
    rw (p.1, p.2) (fail_rejects c.in_err-expect_sign.ensures.err
    (then1 c.in_ok-aborted.ensures.ok (then1 c.in_ok-into.ensures.ok
    (here {σ = AnInto ∷ AnAborted ∷ AMark S.Semicolon ∷ []}) (omega arith)) (omega arith)))

pub join_parts-returns-clause-ok : goal.join_parts-returns-clause-ok
join_parts-returns-clause-ok t c =
    done (then_takes c.in_ok-expect_sign.ensures.ok
    (then1 c.in_ok-aborted.ensures.ok (then1 c.in_ok-into.ensures.ok
    (here {σ = AnInto ∷ AnAborted ∷ AMark S.Semicolon ∷ []}) (omega arith)) (omega arith)) (omega arith))

pub statements-statements-preserved : goal.statements-statements-preserved
statements-statements-preserved t c = record {
  read = goes_on (λ x. (x, tt)) add_statement _ _ c.in-Some.next _ _ _ c.in_ok-push.ensures.items
      c.statements.invariant.read (rw c.in-Some.is at c.in_ok-next.ensures.ok);
  within = omega (arith, c.statements.invariant.within, c.in_ok-next.ensures.within);
}

pub statements-returns-clause-ok : goal.statements-returns-clause-ok
statements-returns-clause-ok t c =
    rw (← (chain_statements c.statements.statements.items NoStatements))
    (ends (λ x. (x, tt)) add_statement c.statements.statements.items NoStatements _ _ _
    c.statements.invariant.read (rw c.in_default.is at c.in_ok-next.ensures.ok))

pub statement_from-returns-in-Assign-clause-ok : goal.statement_from-returns-in-Assign-clause-ok
statement_from-returns-in-Assign-clause-ok t c = c.assignment.ensures.ok

pub statement_from-returns-in-Assign-clause-err : goal.statement_from-returns-in-Assign-clause-err
statement_from-returns-in-Assign-clause-err t c = c.assignment.ensures.err

pub statement_from-returns-in-Assign-clause-shorter : goal.statement_from-returns-in-Assign-clause-shorter
statement_from-returns-in-Assign-clause-shorter t c = c.assignment.ensures.shorter

pub statement_from-assignment-requires-clause-depth : goal.statement_from-assignment-requires-clause-depth
statement_from-assignment-requires-clause-depth t c = c.requires.depth

pub statement_from-assignment-requires-clause-first : goal.statement_from-assignment-requires-clause-first
statement_from-assignment-requires-clause-first t c = c.requires.first ∙ ap start_lexeme c.in-Assign.is

pub statement_from-returns-in-If-clause-ok : goal.statement_from-returns-in-If-clause-ok
statement_from-returns-in-If-clause-ok t c = c.if_statement.ensures.ok

pub statement_from-returns-in-If-clause-err : goal.statement_from-returns-in-If-clause-err
statement_from-returns-in-If-clause-err t c = c.if_statement.ensures.err

pub statement_from-returns-in-If-clause-shorter : goal.statement_from-returns-in-If-clause-shorter
statement_from-returns-in-If-clause-shorter t c = c.if_statement.ensures.shorter

pub statement_from-returns-in-While-clause-ok : goal.statement_from-returns-in-While-clause-ok
statement_from-returns-in-While-clause-ok t c = c.while_statement.ensures.ok

pub statement_from-returns-in-While-clause-err : goal.statement_from-returns-in-While-clause-err
statement_from-returns-in-While-clause-err t c = c.while_statement.ensures.err

pub statement_from-returns-in-While-clause-shorter : goal.statement_from-returns-in-While-clause-shorter
statement_from-returns-in-While-clause-shorter t c = c.while_statement.ensures.shorter

pub statement_from-returns-in-Call-clause-ok : goal.statement_from-returns-in-Call-clause-ok
statement_from-returns-in-Call-clause-ok t c = c.call.ensures.ok

pub statement_from-returns-in-Call-clause-err : goal.statement_from-returns-in-Call-clause-err
statement_from-returns-in-Call-clause-err t c = c.call.ensures.err

pub statement_from-returns-in-Call-clause-shorter : goal.statement_from-returns-in-Call-clause-shorter
statement_from-returns-in-Call-clause-shorter t c = c.call.ensures.shorter

pub statement_from-call-requires-clause-depth : goal.statement_from-call-requires-clause-depth
statement_from-call-requires-clause-depth t c = c.requires.depth

pub statement_from-call-requires-clause-first : goal.statement_from-call-requires-clause-first
statement_from-call-requires-clause-first t c = c.requires.first ∙ ap start_lexeme c.in-Call.is

pub statement_from-returns-in-Fork-clause-ok : goal.statement_from-returns-in-Fork-clause-ok
statement_from-returns-in-Fork-clause-ok t c = c.fork.ensures.ok

pub statement_from-returns-in-Fork-clause-err : goal.statement_from-returns-in-Fork-clause-err
statement_from-returns-in-Fork-clause-err t c = c.fork.ensures.err

pub statement_from-returns-in-Fork-clause-shorter : goal.statement_from-returns-in-Fork-clause-shorter
statement_from-returns-in-Fork-clause-shorter t c = c.fork.ensures.shorter

pub statement_from-fork-requires-clause-depth : goal.statement_from-fork-requires-clause-depth
statement_from-fork-requires-clause-depth t c = c.requires.depth

pub statement_from-fork-requires-clause-first : goal.statement_from-fork-requires-clause-first
statement_from-fork-requires-clause-first t c = c.requires.first ∙ ap start_lexeme c.in-Fork.is

pub statement_from-returns-in-Join-clause-ok : goal.statement_from-returns-in-Join-clause-ok
statement_from-returns-in-Join-clause-ok t c = c.join.ensures.ok

pub statement_from-returns-in-Join-clause-err : goal.statement_from-returns-in-Join-clause-err
statement_from-returns-in-Join-clause-err t c = c.join.ensures.err

pub statement_from-returns-in-Join-clause-shorter : goal.statement_from-returns-in-Join-clause-shorter
statement_from-returns-in-Join-clause-shorter t c = c.join.ensures.shorter

pub statement_from-returns-in-Return-clause-ok : goal.statement_from-returns-in-Return-clause-ok
statement_from-returns-in-Return-clause-ok t c = c.return_statement.ensures.ok

pub statement_from-returns-in-Return-clause-err : goal.statement_from-returns-in-Return-clause-err
statement_from-returns-in-Return-clause-err t c = c.return_statement.ensures.err

pub statement_from-returns-in-Return-clause-shorter : goal.statement_from-returns-in-Return-clause-shorter
statement_from-returns-in-Return-clause-shorter t c = c.return_statement.ensures.shorter

pub statement_from-return_statement-requires-clause-depth : goal.statement_from-return_statement-requires-clause-depth
statement_from-return_statement-requires-clause-depth t c = c.requires.depth

pub statement_from-return_statement-requires-clause-first : goal.statement_from-return_statement-requires-clause-first
statement_from-return_statement-requires-clause-first t c =
    c.requires.first ∙ ap start_lexeme c.in-Return.is

pub statement_from-returns-in-Wait-clause-ok : goal.statement_from-returns-in-Wait-clause-ok
statement_from-returns-in-Wait-clause-ok t c = c.wait.ensures.ok

pub statement_from-returns-in-Wait-clause-err : goal.statement_from-returns-in-Wait-clause-err
statement_from-returns-in-Wait-clause-err t c = c.wait.ensures.err

pub statement_from-returns-in-Wait-clause-shorter : goal.statement_from-returns-in-Wait-clause-shorter
statement_from-returns-in-Wait-clause-shorter t c = c.wait.ensures.shorter

pub statement_from-wait-requires-clause-depth : goal.statement_from-wait-requires-clause-depth
statement_from-wait-requires-clause-depth t c = c.requires.depth

pub statement_from-wait-requires-clause-first : goal.statement_from-wait-requires-clause-first
statement_from-wait-requires-clause-first t c = c.requires.first ∙ ap start_lexeme c.in-Wait.is

pub statement_from-returns-in-Notify-clause-ok : goal.statement_from-returns-in-Notify-clause-ok
statement_from-returns-in-Notify-clause-ok t c = c.notify.ensures.ok

pub statement_from-returns-in-Notify-clause-err : goal.statement_from-returns-in-Notify-clause-err
statement_from-returns-in-Notify-clause-err t c = c.notify.ensures.err

pub statement_from-returns-in-Notify-clause-shorter : goal.statement_from-returns-in-Notify-clause-shorter
statement_from-returns-in-Notify-clause-shorter t c = c.notify.ensures.shorter

pub statement_from-notify-requires-clause-depth : goal.statement_from-notify-requires-clause-depth
statement_from-notify-requires-clause-depth t c = c.requires.depth

pub statement_from-notify-requires-clause-first : goal.statement_from-notify-requires-clause-first
statement_from-notify-requires-clause-first t c = c.requires.first ∙ ap start_lexeme c.in-Notify.is

pub statement_from-returns-in-Broadcast-clause-ok : goal.statement_from-returns-in-Broadcast-clause-ok
statement_from-returns-in-Broadcast-clause-ok t c = c.broadcast.ensures.ok

pub statement_from-returns-in-Broadcast-clause-err : goal.statement_from-returns-in-Broadcast-clause-err
statement_from-returns-in-Broadcast-clause-err t c = c.broadcast.ensures.err

pub statement_from-returns-in-Broadcast-clause-shorter : goal.statement_from-returns-in-Broadcast-clause-shorter
statement_from-returns-in-Broadcast-clause-shorter t c = c.broadcast.ensures.shorter

pub statement_from-broadcast-requires-clause-depth : goal.statement_from-broadcast-requires-clause-depth
statement_from-broadcast-requires-clause-depth t c = c.requires.depth

pub statement_from-broadcast-requires-clause-first : goal.statement_from-broadcast-requires-clause-first
statement_from-broadcast-requires-clause-first t c = c.requires.first ∙ ap start_lexeme c.in-Broadcast.is

pub statement_from-returns-in-Print-clause-ok : goal.statement_from-returns-in-Print-clause-ok
statement_from-returns-in-Print-clause-ok t c = c.print.ensures.ok

pub statement_from-returns-in-Print-clause-err : goal.statement_from-returns-in-Print-clause-err
statement_from-returns-in-Print-clause-err t c = c.print.ensures.err

pub statement_from-returns-in-Print-clause-shorter : goal.statement_from-returns-in-Print-clause-shorter
statement_from-returns-in-Print-clause-shorter t c = c.print.ensures.shorter

pub statement_from-print-requires-clause-depth : goal.statement_from-print-requires-clause-depth
statement_from-print-requires-clause-depth t c = c.requires.depth

pub statement_from-print-requires-clause-first : goal.statement_from-print-requires-clause-first
statement_from-print-requires-clause-first t c = c.requires.first ∙ ap start_lexeme c.in-Print.is

pub statement_from-returns-in-Abort-clause-ok : goal.statement_from-returns-in-Abort-clause-ok
statement_from-returns-in-Abort-clause-ok t c = c.abort.ensures.ok

pub statement_from-returns-in-Abort-clause-err : goal.statement_from-returns-in-Abort-clause-err
statement_from-returns-in-Abort-clause-err t c = c.abort.ensures.err

pub statement_from-returns-in-Abort-clause-shorter : goal.statement_from-returns-in-Abort-clause-shorter
statement_from-returns-in-Abort-clause-shorter t c = c.abort.ensures.shorter

pub statement_from-abort-requires-clause-depth : goal.statement_from-abort-requires-clause-depth
statement_from-abort-requires-clause-depth t c = c.requires.depth

pub statement_from-abort-requires-clause-first : goal.statement_from-abort-requires-clause-first
statement_from-abort-requires-clause-first t c = c.requires.first ∙ ap start_lexeme c.in-Abort.is

pub aborted_statements-returns-in_err-part-clause-err : goal.aborted_statements-returns-in_err-part-clause-err
aborted_statements-returns-in_err-part-clause-err t c =
    let e : lexeme_at (ahead c.args.parser.now) ≡ Word K.Aborted = search rules in
    let p = err_from_is_err_and c.from_residual-in_err-part.result c.from_residual-in_err-part.ensures.1 in
    rw (p.1, p.2) (fail1 c.in_err-part.ensures.err
    (aborts e c.in_ok-inner.ensures.rest
    (omega (arith, c.in_ok-inner.ensures.ok.0, c.in_ok-inner.ensures.ok.1)))
    (omega (arith, c.in_ok-inner.ensures.ok.0, c.in_ok-inner.ensures.ok.1)))

pub aborted_statements-returns-in-Err-clause-err :
    goal.aborted_statements-returns-in-Err-clause-err
aborted_statements-returns-in-Err-clause-err t c =
    let e : lexeme_at (ahead c.args.parser.now) ≡ Word K.Aborted = search rules in
    let p = err_from_is_err_and c.refused.result
    c.refused.ensures in
    rw (p.1, p.2) (fail_rejects c.in-Err.ensures.err
    (then1 c.in_ok-part.ensures.ok (aborts e c.in_ok-inner.ensures.rest
    (omega (arith, c.in_ok-inner.ensures.ok.0, c.in_ok-inner.ensures.ok.1)))
    (omega (arith, c.in_ok-inner.ensures.ok.0, c.in_ok-inner.ensures.ok.1))))
