use Rattle.std.proofs.Common.{arith, inr}
use Rattle.std.proofs.lemmas.Result.{err_from_is_err_and}
use Rattle.syntax.specs.View.{whole}
use Rattle.grammar.proofs.Joins.{here, then1, fail1, then3, fail3, then4, fail4}
use Rattle.grammar.proofs.Law.{limits}
use Rattle.parser.proofs.Units.{unit_reads, unit_refused, unit_fails}
use Rattle.parser.proofs.unit.unit.Goals as goal

pub returns-in_err-name-clause-err : goal.returns-in_err-name-clause-err
returns-in_err-name-clause-err c =
    let p = err_from_is_err_and c.from_residual.result c.from_residual.ensures.1 in
    rw (p.1, p.2) (unit_fails (fail3 c.in_err-name.ensures.err (here) (omega arith)))

pub returns-in_err-monitors-clause-err : goal.returns-in_err-monitors-clause-err
returns-in_err-monitors-clause-err c =
    let p = err_from_is_err_and c.from_residual-in_err-monitors.result c.from_residual-in_err-monitors.ensures.1 in
    rw (p.1, p.2)
    (unit_fails (fail1 c.in_err-monitors.ensures.err (then3 c.in_ok-name.ensures.ok (here) (omega arith))
    (omega arith)))

pub returns-in-Err-clause-err : goal.returns-in-Err-clause-err
returns-in-Err-clause-err c =
    let p = err_from_is_err_and c.refused.result c.refused.ensures in
    rw (p.1, p.2)
    (unit_fails (fail1 c.in-Err.ensures.err
    (then1 c.in_ok-monitors.ensures.ok (then3 c.in_ok-name.ensures.ok (here) (omega arith)) (omega arith))
    (omega arith)))

pub returns-in-Err-main_part-clause-err : goal.returns-in-Err-main_part-clause-err
returns-in-Err-main_part-clause-err c =
    let p = err_from_is_err_and c.refused-in-Err-main_part.result c.refused-in-Err-main_part.ensures in
    rw (p.1, p.2)
    (unit_fails (fail4 c.in-Err-main_part.ensures.err
    (then1 c.in-Ok.ensures.ok (then1 c.in_ok-monitors.ensures.ok
    (then3 c.in_ok-name.ensures.ok (here) (omega arith)) (omega arith)) (omega arith)) (omega arith)))

pub returns-in-Err-finish-clause-err : goal.returns-in-Err-finish-clause-err
returns-in-Err-finish-clause-err c =
    let p = err_from_is_err_and c.refused-in-Err-finish.result c.refused-in-Err-finish.ensures in
    rw (p.1, p.2)
    (inr
    (unit_refused (then4 c.in-Ok-main_part.ensures.ok
    (then1 c.in-Ok.ensures.ok (then1 c.in_ok-monitors.ensures.ok
    (then3 c.in_ok-name.ensures.ok (here) (omega arith)) (omega arith)) (omega arith)) (omega arith))
    c.in-Err-finish.ensures.err))

pub returns-in-Ok-finish-clause-ok : goal.returns-in-Ok-finish-clause-ok
returns-in-Ok-finish-clause-ok c =
    unit_reads (then4 c.in-Ok-main_part.ensures.ok
    (then1 c.in-Ok.ensures.ok (then1 c.in_ok-monitors.ensures.ok
    (then3 c.in_ok-name.ensures.ok (here) (omega arith)) (omega arith)) (omega arith)) (omega arith))
    c.in-Ok-finish.ensures.ok

pub invariant_of-result : goal.invariant_of-result
invariant_of-result c =
    record {
      within = limits c.args.parser.now.rest.now
          (whole c.in_ok-name.name c.in_ok-monitors.monitors.items c.in-Ok.procedures.items
          c.in-Ok-main_part.main)
          (unit_reads (then4 c.in-Ok-main_part.ensures.ok
          (then1 c.in-Ok.ensures.ok (then1 c.in_ok-monitors.ensures.ok
          (then3 c.in_ok-name.ensures.ok (here) (omega arith)) (omega arith)) (omega arith)) (omega arith))
          c.in-Ok-finish.ensures.ok);
    }
