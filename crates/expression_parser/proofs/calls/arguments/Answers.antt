use Rattle.std.proofs.Common.{arith, refl}
use Rattle.token_cursor.proofs.Small.{exit_fails, exit_memory}
use Rattle.expression_parser.proofs.Callees.{arguments_start, arguments_fail, arguments_more, arguments_end}
use Rattle.expression_parser.proofs.Callees.{arguments_absent, more_fails}
use Rattle.expression_parser.proofs.calls.arguments.Goals as goal

pub returns-in_err-first-clause-err : goal.returns-in_err-first-clause-err
returns-in_err-first-clause-err c =
    exit_fails c.from_residual.result c.from_residual.ensures.1
    (arguments_fail (c.if-not-starts_factor.ensures.yes refl) c.in_err-first.ensures.err)

pub more-init : goal.more-init
more-init c = record {
  read = arguments_start _ _ c.in_ok-first.first c.new-arguments.ensures.items c.in_ok-push.ensures.items
      (c.if-not-starts_factor.ensures.yes refl) c.in_ok-first.ensures.ok;
  within = omega (arith, c.in_ok-first.ensures.shorter);
}

pub more-preserved : goal.more-preserved
more-preserved c = record {
  read = arguments_more _ _ c.in_ok-argument.argument c.in_ok-push-2.ensures.items c.requires c.more.invariant.read
      c.more-test.ensures c.in_ok-argument.ensures.ok;
  within = omega (arith, c.in_ok-argument.ensures.shorter, c.more-test.ensures.shorter);
}

pub returns-clause-ok : goal.returns-clause-ok
returns-clause-ok c = arguments_end _ c.more.invariant.read c.more-test.ensures

pub returns-then-not-starts_factor-clause-ok : goal.returns-then-not-starts_factor-clause-ok
returns-then-not-starts_factor-clause-ok c =
    arguments_absent _ c.new-arguments.ensures.items (c.if-not-starts_factor.ensures.no refl)

pub returns-in_err-push-clause-err : goal.returns-in_err-push-clause-err
returns-in_err-push-clause-err c =
    exit_memory _ _ _ c.from_residual-in_err-push.result c.from_residual-in_err-push.ensures.1

pub returns-in_err-argument-clause-err : goal.returns-in_err-argument-clause-err
returns-in_err-argument-clause-err c =
    exit_fails c.from_residual-in_err-argument.result c.from_residual-in_err-argument.ensures.1
    (more_fails c.requires c.more.invariant.read c.more-test.ensures c.in_err-argument.ensures.err)
