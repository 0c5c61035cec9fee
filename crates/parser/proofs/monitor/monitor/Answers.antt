use Rattle.std.proofs.Common.{arith}
use Rattle.std.proofs.lemmas.Result.{err_from_is_err_and}
use Rattle.grammar.proofs.Joins.{then1, fail1}
use Rattle.parser.proofs.Skips.{over, monitors_over}
use Rattle.parser.proofs.Steps.{then_takes, fail_rejects}
use Rattle.parser.proofs.Units.{monitor_begins}
use Rattle.parser.proofs.monitor.monitor.Goals as goal

pub returns-in_default-clause-ok : goal.returns-in_default-clause-ok
returns-in_default-clause-ok c =
    over (monitors_over _ c.in_default.ensures.0) c.in_default.ensures.1

pub returns-in_err-name-clause-err : goal.returns-in_err-name-clause-err
returns-in_err-name-clause-err c =
    let p = err_from_is_err_and c.from_residual.result c.from_residual.ensures.1 in
    rw (p.1, p.2) (fail_rejects c.in_err-name.ensures.err
    (monitor_begins c.in-Some.ensures.first c.in-Some.ensures.rest))

pub returns-in_err-expect_sign-clause-err : goal.returns-in_err-expect_sign-clause-err
returns-in_err-expect_sign-clause-err c =
    let p = err_from_is_err_and c.from_residual-in_err-expect_sign.result
    c.from_residual-in_err-expect_sign.ensures.1 in
    rw (p.1, p.2) (fail_rejects c.in_err-expect_sign.ensures.err
    (then_takes c.in_ok-name.ensures.ok (monitor_begins c.in-Some.ensures.first c.in-Some.ensures.rest)
    (omega arith)))

pub returns-in_err-members-clause-err : goal.returns-in_err-members-clause-err
returns-in_err-members-clause-err c =
    let p = err_from_is_err_and c.from_residual-in_err-members.result c.from_residual-in_err-members.ensures.1 in
    rw (p.1, p.2) (fail1 c.in_err-members.ensures.err
    (then_takes c.in_ok-expect_sign.ensures.ok
    (then_takes c.in_ok-name.ensures.ok (monitor_begins c.in-Some.ensures.first c.in-Some.ensures.rest)
    (omega arith)) (omega arith)) (omega arith))

pub returns-in-Err-clause-err : goal.returns-in-Err-clause-err
returns-in-Err-clause-err c =
    let p = err_from_is_err_and c.refused.result c.refused.ensures in
    rw (p.1, p.2) (fail1 c.in-Err.ensures.err
    (then1 c.in_ok-members.ensures.ok (then_takes c.in_ok-expect_sign.ensures.ok
    (then_takes c.in_ok-name.ensures.ok (monitor_begins c.in-Some.ensures.first c.in-Some.ensures.rest)
    (omega arith)) (omega arith)) (omega arith)) (omega arith))

pub returns-in-Err-recover-clause-err : goal.returns-in-Err-recover-clause-err
returns-in-Err-recover-clause-err c =
    let p = err_from_is_err_and c.refused-in-Err-recover.result c.refused-in-Err-recover.ensures in
    rw (p.1, p.2) (fail1 c.in-Err-recover.ensures.err
    (then1 c.in-Ok.ensures.ok (then1 c.in_ok-members.ensures.ok
    (then_takes c.in_ok-expect_sign.ensures.ok
    (then_takes c.in_ok-name.ensures.ok (monitor_begins c.in-Some.ensures.first c.in-Some.ensures.rest)
    (omega arith)) (omega arith)) (omega arith)) (omega arith)) (omega arith))

pub returns-in-Err-expect_keyword-clause-err : goal.returns-in-Err-expect_keyword-clause-err
returns-in-Err-expect_keyword-clause-err c =
    let p = err_from_is_err_and c.refused-in-Err-expect_keyword.result
    c.refused-in-Err-expect_keyword.ensures in
    rw (p.1, p.2) (fail_rejects c.in-Err-expect_keyword.ensures.err
    (then1 c.in-Ok-recover.ensures.ok (then1 c.in-Ok.ensures.ok
    (then1 c.in_ok-members.ensures.ok (then_takes c.in_ok-expect_sign.ensures.ok
    (then_takes c.in_ok-name.ensures.ok (monitor_begins c.in-Some.ensures.first c.in-Some.ensures.rest)
    (omega arith)) (omega arith)) (omega arith)) (omega arith)) (omega arith)))

pub returns-in-Err-expect_sign-clause-err : goal.returns-in-Err-expect_sign-clause-err
returns-in-Err-expect_sign-clause-err c =
    let p = err_from_is_err_and c.refused-in-Err-expect_sign.result
    c.refused-in-Err-expect_sign.ensures in
    rw (p.1, p.2) (fail_rejects c.in-Err-expect_sign.ensures.err
    (then_takes c.in-Ok-expect_keyword.ensures.ok
    (then1 c.in-Ok-recover.ensures.ok (then1 c.in-Ok.ensures.ok
    (then1 c.in_ok-members.ensures.ok (then_takes c.in_ok-expect_sign.ensures.ok
    (then_takes c.in_ok-name.ensures.ok (monitor_begins c.in-Some.ensures.first c.in-Some.ensures.rest)
    (omega arith)) (omega arith)) (omega arith)) (omega arith)) (omega arith)) (omega arith)))

pub returns-in-Ok-expect_sign-clause-ok : goal.returns-in-Ok-expect_sign-clause-ok
returns-in-Ok-expect_sign-clause-ok c =
    then_takes c.in-Ok-expect_sign.ensures.ok
    (then_takes c.in-Ok-expect_keyword.ensures.ok
    (then1 c.in-Ok-recover.ensures.ok (then1 c.in-Ok.ensures.ok
    (then1 c.in_ok-members.ensures.ok (then_takes c.in_ok-expect_sign.ensures.ok
    (then_takes c.in_ok-name.ensures.ok (monitor_begins c.in-Some.ensures.first c.in-Some.ensures.rest)
    (omega arith)) (omega arith)) (omega arith)) (omega arith)) (omega arith)) (omega arith)) (omega arith)
