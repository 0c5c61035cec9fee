use Rattle.std.proofs.Common.{◌≡◌, arith, sym, refl}
use Rattle.std.proofs.lemmas.Result.{err_from_is_err_and}
use Rattle.syntax.specs.View.{procedure_of}
use Rattle.grammar.specs.Machine.{reply_monitor_procedures, of_access}
use Rattle.grammar.specs.Reading.{lexeme_at}
use Rattle.grammar.proofs.Joins.{fail10}
use Rattle.token_cursor.specs.Ahead.{ahead}
use Rattle.parser.proofs.Skips.{over}
use Rattle.parser.proofs.Steps.{then_takes, fail_rejects}
use Rattle.parser.proofs.Units.{access_reply, no_access, access_begins, access_reads}
use Rattle.parser.proofs.procedure.monitor_procedure.Goals as goal

pub returns-in_default-clause-ok : goal.returns-in_default-clause-ok
returns-in_default-clause-ok c =
    over (rw (← c.peek.ensures.lexeme) (no_access c.peek.result.kind c.peek.result.text.now c.peek.result.place
    (sym c.in_default.ensures))) refl

pub returns-in_err-place-clause-err : goal.returns-in_err-place-clause-err
returns-in_err-place-clause-err c =
    let r : reply_monitor_procedures (lexeme_at (ahead c.args.parser.now)) ≡ of_access c.in-Some.access =
    rw (← c.peek.ensures.lexeme) (access_reply c.peek.result.kind c.peek.result.text.now c.peek.result.place
    c.in-Some.access (sym c.in-Some.ensures)) in
    let p = err_from_is_err_and c.from_residual.result c.from_residual.ensures.1 in
    rw (p.1, p.2) (fail_rejects c.in_err-place.ensures.err (access_begins r c.pass.ensures.rest))

pub returns-in_err-procedure-clause-err : goal.returns-in_err-procedure-clause-err
returns-in_err-procedure-clause-err c =
    let r : reply_monitor_procedures (lexeme_at (ahead c.args.parser.now)) ≡ of_access c.in-Some.access =
    rw (← c.peek.ensures.lexeme) (access_reply c.peek.result.kind c.peek.result.text.now c.peek.result.place
    c.in-Some.access (sym c.in-Some.ensures)) in
    let p = err_from_is_err_and c.from_residual-in_err-procedure.result c.from_residual-in_err-procedure.ensures.1 in
    rw (p.1, p.2) (fail10 c.in_err-procedure.ensures.err
    (then_takes c.in_ok-place.ensures.ok (access_begins r c.pass.ensures.rest) (omega arith)) refl)

pub returns-clause-ok : goal.returns-clause-ok
returns-clause-ok c =
    let r : reply_monitor_procedures (lexeme_at (ahead c.args.parser.now)) ≡ of_access c.in-Some.access =
    rw (← c.peek.ensures.lexeme) (access_reply c.peek.result.kind c.peek.result.text.now c.peek.result.place
    c.in-Some.access (sym c.in-Some.ensures)) in
    access_reads c.in-Some.access (procedure_of c.in_ok-procedure.procedure) c.in_ok-procedure.ensures.place
    (then_takes c.in_ok-place.ensures.ok (access_begins r c.pass.ensures.rest) (omega arith))
    c.in_ok-procedure.ensures.ok
