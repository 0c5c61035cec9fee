use Rattle.std.proofs.Common.{◌∙◌, map, sym}
use Rattle.program.specs.Views.{expression_of}
use Rattle.syntax.specs.View as v
use Rattle.types.specs.ExpressionFaults.{expression_faults}
use Rattle.types.specs.Expressions as x
use Rattle.types.specs.Statements as st
use Rattle.types.specs.Typing.{expression_place}
use Rattle.resolver.proofs.Mapped.{mapped_step, mapped_all}
use Rattle.resolver.proofs.Passing.{pass_next, pass_past}
use Rattle.resolver.proofs.operands.arguments.Goals as goal

pub loop-number-preserved : goal.loop-number-preserved
loop-number-preserved c = λ s h.
    let tree = v.expression_of c.index-trees-number.result in (
      mapped_step expression_of (x.expression s) v.expression_of _ _ _ c.args.trees.now c.loop-number.number
          c.index-trees-number.result c.loop-number-test.true c.index-trees-number.is c.in_ok-push.ensures.items
          (c.in_ok-made.ensures s h).0 (c.loop-number.invariant s h).0,
      pass_next s c.args.trees.now c.args.parameters.now c.loop-number.number c.index-trees-number.result
          c.wanted_of-wanted.result c.loop-number.all_clean c.passes-all_clean.result c.loop-number-test.true
          c.index-trees-number.is c.wanted_of-wanted.ensures
          (c.passes-all_clean.ensures _ _ (expression_faults s tree) (expression_place tree) (c.in_ok-made.ensures s h))
          ∙ (c.loop-number.invariant s h).1,
    )

pub returns-clause-arguments : goal.returns-clause-arguments
returns-clause-arguments c = λ s h.
    mapped_all (λ ts. st.arguments s (map v.expression_of ts)) _ c.args.trees.now c.loop-number.number
    c.loop-number-test.false (c.loop-number.invariant s h).0

pub returns-clause-clean : goal.returns-clause-clean
returns-clause-clean c = λ s h.
    sym (pass_past s c.args.trees.now c.args.parameters.now c.loop-number.number c.loop-number.all_clean
    c.loop-number-test.false) ∙ (c.loop-number.invariant s h).1
