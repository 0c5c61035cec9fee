use Rattle.std.proofs.Common.{[], arith}
use Rattle.syntax.specs.View.{local_of}
use Rattle.parser.specs.Steps.{add_local}
use Rattle.parser.proofs.Loops.{goes_on, ends, chain_map}
use Rattle.parser.proofs.declaration.locals.Goals as goal

pub locals-preserved : goal.locals-preserved
locals-preserved c = record {
  read = goes_on (λ x. (x, tt)) add_local _ _ c.in-Some.local _ _ _ c.in_ok-push.ensures.items c.locals.invariant.read
      (rw c.in-Some.is at c.in_ok-local.ensures.ok);
  within = omega (arith, c.locals.invariant.within, c.in_ok-local.ensures.within);
}

pub returns-clause-ok : goal.returns-clause-ok
returns-clause-ok c =
    rw (← (chain_map local_of c.locals.locals.items))
    (ends (λ x. (x, tt)) add_local c.locals.locals.items [] _ _ _ c.locals.invariant.read
    (rw c.in_default.is at c.in_ok-local.ensures.ok))
