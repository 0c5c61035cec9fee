use Rattle.std.proofs.Common.{arith}
use Rattle.unit_faults.proofs.Gathering.{match_next, match_past}
use Rattle.unit_faults.proofs.arguments.matched.Goals as goal

pub loop-number-preserved : goal.loop-number-preserved
loop-number-preserved c = λ s h least k. c.loop-number.invariant s h least
    (match_next s c.args.trees.now c.args.parameters.now c.loop-number.number c.index-trees-number.result _ _ _ _
    c.loop-number.all c.operand-all.result least
    (omega (arith, c.loop-number-test.true, c.min-number-end.ensures))
    (omega (arith, c.loop-number-test.true, c.min-number-end.ensures)) c.index-trees-number.is c.local_kind.ensures
    (c.expression_type.ensures s h) c.expression_place.ensures c.operand-all.ensures k)

pub returns : goal.returns
returns c = λ s h. c.loop-number.invariant s h c.loop-number.all
    (match_past s c.args.trees.now c.args.parameters.now c.loop-number.number c.loop-number.all
    (omega (arith, c.loop-number-test.false, c.min-number-end.ensures)))
