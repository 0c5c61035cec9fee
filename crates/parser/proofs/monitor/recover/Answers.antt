use Rattle.std.proofs.Common.{arith}
use Rattle.std.proofs.lemmas.Result.{err_from_is_err_and}
use Rattle.grammar.proofs.Joins.{done, then3, fail3}
use Rattle.parser.proofs.Skips.{over, recover_over}
use Rattle.parser.proofs.Steps.{then_takes, fail_rejects}
use Rattle.parser.proofs.Units.{recover_begins}
use Rattle.parser.proofs.monitor.recover.Goals as goal

pub returns-in_default-clause-ok : goal.returns-in_default-clause-ok
returns-in_default-clause-ok c =
    over (recover_over _ c.in_default.ensures.0) c.in_default.ensures.1

pub returns-in_err-body-clause-err : goal.returns-in_err-body-clause-err
returns-in_err-body-clause-err c =
    let p = err_from_is_err_and c.from_residual.result c.from_residual.ensures.1 in
    rw (p.1, p.2) (fail3 c.in_err-body.ensures.err (recover_begins c.in-Some.ensures.first c.in-Some.ensures.rest)
    (omega arith))

pub returns-in-Err-clause-err : goal.returns-in-Err-clause-err
returns-in-Err-clause-err c =
    let p = err_from_is_err_and c.refused.result
    c.refused.ensures in
    rw (p.1, p.2) (fail_rejects c.in-Err.ensures.err
    (then3 c.in_ok-body.ensures.ok (recover_begins c.in-Some.ensures.first c.in-Some.ensures.rest) (omega arith)))

pub returns-in-Ok-clause-ok : goal.returns-in-Ok-clause-ok
returns-in-Ok-clause-ok c =
    done (then_takes c.in-Ok.ensures.ok
    (then3 c.in_ok-body.ensures.ok (recover_begins c.in-Some.ensures.first c.in-Some.ensures.rest) (omega arith))
    (omega arith))
