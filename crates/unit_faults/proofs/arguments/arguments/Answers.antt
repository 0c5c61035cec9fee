use Rattle.std.proofs.Common.{map, refl}
use Rattle.syntax.specs.View.{expression_of}
use Rattle.types.specs.ExpressionFaults.{expression_faults}
use Rattle.types.specs.StatementFaults.{arguments_faults}
use Rattle.body_faults.proofs.Gathering.{gathers_next, gathers_past}
use Rattle.unit_faults.proofs.arguments.arguments.Goals as goal

pub loop-tree-preserved : goal.loop-tree-preserved
loop-tree-preserved c = λ s h least k. c.loop-tree.invariant s h least
    (gathers_next (λ es. arguments_faults s (map expression_of es)) (λ e. expression_faults s (expression_of e))
    (λ e es. refl) c.args.trees.now c.loop-tree.tree-index c.tree-item.result c.loop-tree.all c.expression-all.result
    least
    c.loop-tree-test.true c.tree-item.is (c.expression-all.ensures s h) k)

pub returns : goal.returns
returns c = λ s h. c.loop-tree.invariant s h c.loop-tree.all
    (gathers_past (λ es. arguments_faults s (map expression_of es)) refl c.args.trees.now c.loop-tree.tree-index
    c.loop-tree.all c.loop-tree-test.false)
