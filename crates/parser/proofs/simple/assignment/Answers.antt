use Rattle.std.proofs.Common.{arith, ap, sym}
use Rattle.std.proofs.lemmas.Result.{err_from_is_err_and}
use Rattle.syntax.specs.Tree.{Assign, Then}
use Rattle.syntax.specs.View.{expression_of, name_of, variable_of}
use Rattle.grammar.proofs.Joins.{then1, fail1, leads_as}
use Rattle.parser.proofs.Steps.{then_takes, fail_rejects, then_enclosed, fail_enclosed}
use Rattle.parser.proofs.Begun.{assigns}
use Rattle.parser.proofs.simple.assignment.Goals as goal

pub returns-in_err-variable-clause-err : goal.returns-in_err-variable-clause-err
returns-in_err-variable-clause-err c =
    let p = err_from_is_err_and c.from_residual.result c.from_residual.ensures.1 in
    rw (p.1, p.2) (fail1 c.in_err-variable.ensures.err (assigns c.requires.first c.pass.ensures.rest c.requires.depth)
    (omega arith))

pub returns-in-Err-clause-err : goal.returns-in-Err-clause-err
returns-in-Err-clause-err c =
    let p = err_from_is_err_and c.refused.result
    c.refused.ensures in
    rw (p.1, p.2) (fail_rejects c.in-Err.ensures.err
    (then1 c.in_ok-variable.ensures.ok (assigns c.requires.first c.pass.ensures.rest c.requires.depth)
    (omega arith)))

pub returns-in-Err-expression_before-clause-err : goal.returns-in-Err-expression_before-clause-err
returns-in-Err-expression_before-clause-err c =
    let p = err_from_is_err_and c.refused-in-Err-expression_before.result c.refused-in-Err-expression_before.ensures in
    rw (p.1, p.2) (fail_enclosed c.in-Err-expression_before.ensures.err (then_takes c.in-Ok.ensures.ok
    (then1 c.in_ok-variable.ensures.ok (assigns c.requires.first c.pass.ensures.rest c.requires.depth) (omega arith))
    (omega arith)) (omega arith))

pub returns-in-Ok-expression_before-clause-ok : goal.returns-in-Ok-expression_before-clause-ok
returns-in-Ok-expression_before-clause-ok c =
    let index = (variable_of c.in_ok-variable.variable).index in
    leads_as (λ y. ap (λ v. (Then (Assign v (expression_of c.in-Ok-expression_before.value)) y.0, tt))
    (ap (λ n. record { name = n; index = index }) (sym c.in_ok-variable.ensures.name)))
    (then_enclosed (λ x y. (Then (Assign (record { name = name_of c.args.name; index = index }) x) y.0, tt))
    (expression_of c.in-Ok-expression_before.value) c.in-Ok-expression_before.ensures.ok (then_takes c.in-Ok.ensures.ok
    (then1 c.in_ok-variable.ensures.ok (assigns c.requires.first c.pass.ensures.rest c.requires.depth) (omega arith))
    (omega arith)) (omega arith))
