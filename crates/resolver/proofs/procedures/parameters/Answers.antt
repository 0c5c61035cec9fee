use Rattle.std.proofs.Common.{map}
use Rattle.syntax.specs.View.{parameter_of}
use Rattle.types.specs.Kinds.{local_kind, parameter_kinds}
use Rattle.resolver.proofs.BlockRows.{row_step, row_all}
use Rattle.resolver.proofs.procedures.parameters.Goals as goal

pub loop-tree-preserved : goal.loop-tree-preserved
loop-tree-preserved c =
    row_step (λ x. local_kind x.kind) parameter_of _ _ _ c.args.trees.now c.loop-tree.tree-index _
    c.loop-tree-test.true c.in_ok-push.ensures.items c.local_kind.ensures c.loop-tree.invariant

pub returns : goal.returns
returns c =
    row_all (λ ts. parameter_kinds (map parameter_of ts)) _ c.args.trees.now c.loop-tree.tree-index
    c.loop-tree-test.false c.loop-tree.invariant
