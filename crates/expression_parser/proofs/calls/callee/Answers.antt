use Rattle.token_cursor.proofs.Small.{rejects, exit_fails}
use Rattle.expression_parser.proofs.Callees.{after_dot, dot_fails, opening_fails, after_opening, list_fails}
use Rattle.expression_parser.proofs.Callees.{closing_fails}
use Rattle.expression_parser.proofs.Callees.{callee_closes}
use Rattle.expression_parser.proofs.calls.callee.Goals as goal

pub returns-in_err-name-clause-err : goal.returns-in_err-name-clause-err
returns-in_err-name-clause-err c =
    exit_fails c.from_residual.result c.from_residual.ensures.1 (rejects c.in_err-name.ensures.err)

pub returns-in_err-dotted-clause-err : goal.returns-in_err-dotted-clause-err
returns-in_err-dotted-clause-err c =
    exit_fails c.from_residual-in_err-dotted.result c.from_residual-in_err-dotted.ensures.1
    (dot_fails c.requires c.in_ok-name.ensures.ok c.in_err-dotted.ensures.err)

pub returns-in_err-open_place-clause-err : goal.returns-in_err-open_place-clause-err
returns-in_err-open_place-clause-err c =
    exit_fails c.from_residual-in_err-open_place.result c.from_residual-in_err-open_place.ensures.1
    (opening_fails (after_dot c.requires c.in_ok-name.ensures.ok c.in_ok-dotted.ensures.ok)
    c.in_err-open_place.ensures.err)

pub returns-in_err-arguments-clause-err : goal.returns-in_err-arguments-clause-err
returns-in_err-arguments-clause-err c =
    exit_fails c.from_residual-in_err-arguments.result c.from_residual-in_err-arguments.ensures.1
    (list_fails (after_opening c.requires (after_dot c.requires c.in_ok-name.ensures.ok c.in_ok-dotted.ensures.ok)
    c.in_ok-open_place.ensures.ok) c.in_err-arguments.ensures.err)

pub returns-in_err-expect_sign-clause-err : goal.returns-in_err-expect_sign-clause-err
returns-in_err-expect_sign-clause-err c =
    exit_fails c.from_residual-in_err-expect_sign.result c.from_residual-in_err-expect_sign.ensures.1
    (closing_fails (after_opening c.requires (after_dot c.requires c.in_ok-name.ensures.ok c.in_ok-dotted.ensures.ok)
    c.in_ok-open_place.ensures.ok) c.in_ok-arguments.ensures.ok c.in_err-expect_sign.ensures.err)

pub returns-clause-ok : goal.returns-clause-ok
returns-clause-ok c = rw (c.callee_names.ensures.first, c.callee_names.ensures.dotted)
    (callee_closes c.requires (after_opening c.requires
    (after_dot c.requires c.in_ok-name.ensures.ok c.in_ok-dotted.ensures.ok) c.in_ok-open_place.ensures.ok)
    c.in_ok-arguments.ensures.ok c.in_ok-expect_sign.ensures.ok)
