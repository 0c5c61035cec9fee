use Rattle.std.proofs.Common.{arith}
use Rattle.std.proofs.lemmas.Result.{err_from_is_err_and}
use Rattle.syntax.specs.Tree.{Print, Then}
use Rattle.syntax.specs.View.{expression_of}
use Rattle.parser.proofs.Steps.{then_enclosed, fail_enclosed}
use Rattle.parser.proofs.Begun.{prints}
use Rattle.parser.proofs.simple.print.Goals as goal

pub returns-in_err-value-clause-err : goal.returns-in_err-value-clause-err
returns-in_err-value-clause-err c =
    let p = err_from_is_err_and c.from_residual.result c.from_residual.ensures.1 in
    rw (p.1, p.2) (fail_enclosed c.in_err-value.ensures.err
    (prints c.requires.first c.pass.ensures.rest c.requires.depth) (omega arith))

pub returns-clause-ok : goal.returns-clause-ok
returns-clause-ok c =
    then_enclosed (λ x y. (Then (Print c.args.place x) y.0, tt)) (expression_of c.in_ok-value.value)
    c.in_ok-value.ensures.ok (prints c.requires.first c.pass.ensures.rest c.requires.depth) (omega arith)
