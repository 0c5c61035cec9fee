use Rattle.std.proofs.Common.{arith}
use Rattle.std.proofs.lemmas.Result.{err_from_is_err_and}
use Rattle.grammar.proofs.Joins.{then1, fail1}
use Rattle.parser.proofs.Steps.{then_takes, fail_rejects}
use Rattle.parser.proofs.Begun.{returns}
use Rattle.parser.proofs.simple.return_statement.Goals as goal

pub returns-in_err-value-clause-err : goal.returns-in_err-value-clause-err
returns-in_err-value-clause-err c =
    let p = err_from_is_err_and c.from_residual.result c.from_residual.ensures.1 in
    rw (p.1, p.2) (fail1 c.in_err-value.ensures.err (returns c.requires.first c.pass.ensures.rest c.requires.depth)
    (omega arith))

pub returns-in_err-expect_sign-clause-err : goal.returns-in_err-expect_sign-clause-err
returns-in_err-expect_sign-clause-err c =
    let p = err_from_is_err_and c.from_residual-in_err-expect_sign.result
    c.from_residual-in_err-expect_sign.ensures.1 in
    rw (p.1, p.2) (fail_rejects c.in_err-expect_sign.ensures.err
    (then1 c.in_ok-value.ensures.ok (returns c.requires.first c.pass.ensures.rest c.requires.depth)
    (omega arith)))

pub returns-clause-ok : goal.returns-clause-ok
returns-clause-ok c =
    then_takes c.in_ok-expect_sign.ensures.ok
    (then1 c.in_ok-value.ensures.ok (returns c.requires.first c.pass.ensures.rest c.requires.depth) (omega arith))
    (omega arith)
