use Rattle.std.proofs.Common.{[], arith}
use Rattle.syntax.specs.View.{procedure_of}
use Rattle.parser.specs.Steps.{add_procedure}
use Rattle.parser.proofs.Loops.{goes_on, ends, chain_map}
use Rattle.parser.proofs.procedure.procedures.Goals as goal

pub procedures-preserved : goal.procedures-preserved
procedures-preserved c = record {
  read = goes_on (λ x. (x, tt)) add_procedure _ _ c.in-Some.procedure _ _ _ c.in_ok-push.ensures.items
      c.procedures.invariant.read (rw c.in-Some.is at c.in_ok-procedure.ensures.ok);
  within = omega (arith, c.procedures.invariant.within, c.in_ok-procedure.ensures.within);
}

pub returns-clause-ok : goal.returns-clause-ok
returns-clause-ok c =
    rw (← (chain_map procedure_of c.procedures.procedures.items))
    (ends (λ x. (x, tt)) add_procedure c.procedures.procedures.items [] _ _ _ c.procedures.invariant.read
    (rw c.in_default.is at c.in_ok-procedure.ensures.ok))
