use Rattle.std.proofs.Common.{refl}
use Rattle.syntax.specs.View.{expression_of}
use Rattle.token_cursor.proofs.Small.{exit_fails}
use Rattle.expression_parser.proofs.Callees.{value_passes, value_fails, value_absent}
use Rattle.expression_parser.proofs.calls.value.Goals as goal

pub returns-then-not-starts_factor-clause-ok : goal.returns-then-not-starts_factor-clause-ok
returns-then-not-starts_factor-clause-ok c = value_absent (c.if-not-starts_factor.ensures.no refl)

pub returns-in_err-expression-clause-err : goal.returns-in_err-expression-clause-err
returns-in_err-expression-clause-err c =
    exit_fails c.from_residual.result c.from_residual.ensures.1
    (value_fails (c.if-not-starts_factor.ensures.yes refl) c.in_err-expression.ensures.err)

pub returns-clause-ok : goal.returns-clause-ok
returns-clause-ok c =
    value_passes (expression_of c.in_ok-expression.field-0) (c.if-not-starts_factor.ensures.yes refl)
    c.in_ok-expression.ensures.ok
