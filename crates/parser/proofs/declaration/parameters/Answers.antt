use Rattle.std.proofs.Common.{◌≡◌, [], arith, rules, refl}
use Rattle.std.proofs.lemmas.Result.{err_from_is_err_and}
use Rattle.syntax.specs.Lexeme.{Named}
use Rattle.grammar.specs.Reading.{lexeme_at}
use Rattle.grammar.proofs.Joins.{fail3}
use Rattle.token_cursor.specs.Ahead.{ahead}
use Rattle.parser.proofs.Skips.{named_parameters}
use Rattle.syntax.specs.View.{parameter_of}
use Rattle.parser.specs.Steps.{add_parameter}
use Rattle.parser.proofs.Loops.{goes_on, ends, chain_map}
use Rattle.parser.proofs.declaration.parameters.Goals as goal

pub parameters-preserved : goal.parameters-preserved
parameters-preserved c = record {
  read = goes_on (λ x. (x, tt)) add_parameter _ _ c.in-Some.next _ _ _ c.in_ok-push-2.ensures.items
      c.parameters.invariant.read (rw c.in-Some.is at c.in_ok-next.ensures.ok);
  within = omega (arith, c.parameters.invariant.within, c.in_ok-next.ensures.within);
}

pub returns-clause-ok : goal.returns-clause-ok
returns-clause-ok c =
    rw (← (chain_map parameter_of c.parameters.parameters.items))
    (ends (λ x. (x, tt)) add_parameter c.parameters.parameters.items [] _ _ _ c.parameters.invariant.read
    (rw c.in_default.is at c.in_ok-next.ensures.ok))

pub returns-in_err-first-clause-err : goal.returns-in_err-first-clause-err
returns-in_err-first-clause-err c =
    let p = err_from_is_err_and c.from_residual.result c.from_residual.ensures.1 in
    let e : lexeme_at (ahead c.args.parser.now) ≡ Named
    (record { text = c.peek.result.text.now; place = c.peek.result.place }) = search rules in
    rw (p.1, p.2) (fail3 c.in_err-first.ensures.err (named_parameters e) refl)
