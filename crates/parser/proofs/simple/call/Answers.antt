use Rattle.std.proofs.Common.{arith}
use Rattle.std.proofs.lemmas.Result.{err_from_is_err_and}
use Rattle.syntax.specs.Tree.{Call, Then}
use Rattle.syntax.specs.View.{callee_of}
use Rattle.grammar.proofs.Joins.{then1, fail1}
use Rattle.parser.proofs.Steps.{then_takes, fail_rejects, then_callee, fail_callee}
use Rattle.parser.proofs.Begun.{calls}
use Rattle.parser.proofs.simple.call.Goals as goal

pub returns-in_err-callee-clause-err : goal.returns-in_err-callee-clause-err
returns-in_err-callee-clause-err c =
    let p = err_from_is_err_and c.from_residual.result c.from_residual.ensures.1 in
    rw (p.1, p.2) (fail_callee c.in_err-callee.ensures.err
    (calls c.requires.first c.pass.ensures.rest c.requires.depth) (omega arith))

pub returns-in-Err-clause-err : goal.returns-in-Err-clause-err
returns-in-Err-clause-err c =
    let p = err_from_is_err_and c.refused.result c.refused.ensures in
    rw (p.1, p.2) (fail1 c.in-Err.ensures.err
    (then_callee (λ x y. (Then (Call c.args.place x y.0) y.1.1.0, tt)) (callee_of c.in_ok-callee.callee)
    c.in_ok-callee.ensures.ok (calls c.requires.first c.pass.ensures.rest c.requires.depth) (omega arith))
    (omega arith))

pub returns-in-Err-expect_sign-clause-err : goal.returns-in-Err-expect_sign-clause-err
returns-in-Err-expect_sign-clause-err c =
    let p = err_from_is_err_and c.refused-in-Err-expect_sign.result
    c.refused-in-Err-expect_sign.ensures in
    rw (p.1, p.2) (fail_rejects c.in-Err-expect_sign.ensures.err
    (then1 c.in-Ok.ensures.ok (then_callee (λ x y. (Then (Call c.args.place x y.0) y.1.1.0, tt))
    (callee_of c.in_ok-callee.callee) c.in_ok-callee.ensures.ok
    (calls c.requires.first c.pass.ensures.rest c.requires.depth) (omega arith)) (omega arith)))

pub returns-in-Ok-expect_sign-clause-ok : goal.returns-in-Ok-expect_sign-clause-ok
returns-in-Ok-expect_sign-clause-ok c =
    then_takes c.in-Ok-expect_sign.ensures.ok
    (then1 c.in-Ok.ensures.ok (then_callee (λ x y. (Then (Call c.args.place x y.0) y.1.1.0, tt))
    (callee_of c.in_ok-callee.callee) c.in_ok-callee.ensures.ok
    (calls c.requires.first c.pass.ensures.rest c.requires.depth) (omega arith)) (omega arith)) (omega arith)
