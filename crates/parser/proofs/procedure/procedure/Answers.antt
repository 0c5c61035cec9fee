use Rattle.std.proofs.Common.{arith}
use Rattle.std.proofs.lemmas.Result.{err_from_is_err_and}
use Rattle.grammar.proofs.Joins.{here, done, then1, fail1, then3, fail3}
use Rattle.parser.proofs.Steps.{then_takes, fail_rejects}
use Rattle.parser.proofs.procedure.procedure.Goals as goal

pub returns-in_err-name-clause-err : goal.returns-in_err-name-clause-err
returns-in_err-name-clause-err c =
    let p = err_from_is_err_and c.from_residual.result c.from_residual.ensures.1 in
    rw (p.1, p.2) (fail_rejects c.in_err-name.ensures.err (here))

pub returns-in_err-open_place-clause-err : goal.returns-in_err-open_place-clause-err
returns-in_err-open_place-clause-err c =
    let p = err_from_is_err_and c.from_residual-in_err-open_place.result c.from_residual-in_err-open_place.ensures.1 in
    rw (p.1, p.2) (fail_rejects c.in_err-open_place.ensures.err
    (then_takes c.in_ok-name.ensures.ok (here) (omega arith)))

pub returns-in_err-parameters-clause-err : goal.returns-in_err-parameters-clause-err
returns-in_err-parameters-clause-err c =
    let p = err_from_is_err_and c.from_residual-in_err-parameters.result c.from_residual-in_err-parameters.ensures.1 in
    rw (p.1, p.2) (fail1 c.in_err-parameters.ensures.err
    (then_takes c.in_ok-open_place.ensures.ok (then_takes c.in_ok-name.ensures.ok (here) (omega arith))
    (omega arith)) (omega arith))

pub returns-in-Err-clause-err : goal.returns-in-Err-clause-err
returns-in-Err-clause-err c =
    let p = err_from_is_err_and c.refused.result
    c.refused.ensures in
    rw (p.1, p.2) (fail_rejects c.in-Err.ensures.err
    (then1 c.in_ok-parameters.ensures.ok (then_takes c.in_ok-open_place.ensures.ok
    (then_takes c.in_ok-name.ensures.ok (here) (omega arith)) (omega arith)) (omega arith)))

pub returns-in-Err-returns-clause-err : goal.returns-in-Err-returns-clause-err
returns-in-Err-returns-clause-err c =
    let p = err_from_is_err_and c.refused-in-Err-returns.result c.refused-in-Err-returns.ensures in
    rw (p.1, p.2) (fail1 c.in-Err-returns.ensures.err
    (then_takes c.in-Ok.ensures.ok
    (then1 c.in_ok-parameters.ensures.ok (then_takes c.in_ok-open_place.ensures.ok
    (then_takes c.in_ok-name.ensures.ok (here) (omega arith)) (omega arith)) (omega arith)) (omega arith))
    (omega arith))

pub returns-in-Err-expect_sign-clause-err : goal.returns-in-Err-expect_sign-clause-err
returns-in-Err-expect_sign-clause-err c =
    let p = err_from_is_err_and c.refused-in-Err-expect_sign.result
    c.refused-in-Err-expect_sign.ensures in
    rw (p.1, p.2) (fail_rejects c.in-Err-expect_sign.ensures.err
    (then1 c.in-Ok-returns.ensures.ok (then_takes c.in-Ok.ensures.ok
    (then1 c.in_ok-parameters.ensures.ok (then_takes c.in_ok-open_place.ensures.ok
    (then_takes c.in_ok-name.ensures.ok (here) (omega arith)) (omega arith)) (omega arith)) (omega arith))
    (omega arith)))

pub returns-in-Err-body-clause-err : goal.returns-in-Err-body-clause-err
returns-in-Err-body-clause-err c =
    let p = err_from_is_err_and c.refused-in-Err-body.result c.refused-in-Err-body.ensures in
    rw (p.1, p.2) (fail3 c.in-Err-body.ensures.err
    (then_takes c.in-Ok-expect_sign.ensures.ok
    (then1 c.in-Ok-returns.ensures.ok (then_takes c.in-Ok.ensures.ok
    (then1 c.in_ok-parameters.ensures.ok (then_takes c.in_ok-open_place.ensures.ok
    (then_takes c.in_ok-name.ensures.ok (here) (omega arith)) (omega arith)) (omega arith)) (omega arith))
    (omega arith)) (omega arith)) (omega arith))

pub returns-in-Err-expect_sign-2-clause-err : goal.returns-in-Err-expect_sign-2-clause-err
returns-in-Err-expect_sign-2-clause-err c =
    let p = err_from_is_err_and c.refused-in-Err-expect_sign-2.result
    c.refused-in-Err-expect_sign-2.ensures in
    rw (p.1, p.2) (fail_rejects c.in-Err-expect_sign-2.ensures.err
    (then3 c.in-Ok-body.ensures.ok (then_takes c.in-Ok-expect_sign.ensures.ok
    (then1 c.in-Ok-returns.ensures.ok (then_takes c.in-Ok.ensures.ok
    (then1 c.in_ok-parameters.ensures.ok (then_takes c.in_ok-open_place.ensures.ok
    (then_takes c.in_ok-name.ensures.ok (here) (omega arith)) (omega arith)) (omega arith)) (omega arith))
    (omega arith)) (omega arith)) (omega arith)))

pub returns-in-Ok-expect_sign-2-clause-ok : goal.returns-in-Ok-expect_sign-2-clause-ok
returns-in-Ok-expect_sign-2-clause-ok c =
    done (then_takes c.in-Ok-expect_sign-2.ensures.ok
    (then3 c.in-Ok-body.ensures.ok (then_takes c.in-Ok-expect_sign.ensures.ok
    (then1 c.in-Ok-returns.ensures.ok (then_takes c.in-Ok.ensures.ok
    (then1 c.in_ok-parameters.ensures.ok (then_takes c.in_ok-open_place.ensures.ok
    (then_takes c.in_ok-name.ensures.ok (here) (omega arith)) (omega arith)) (omega arith)) (omega arith))
    (omega arith)) (omega arith)) (omega arith)) (omega arith))
