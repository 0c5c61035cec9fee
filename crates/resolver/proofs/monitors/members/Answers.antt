use Rattle.std.proofs.Common.{map}
use Rattle.syntax.specs.View.{member_of}
use Rattle.types.specs.Kinds.{member_kind, member_kinds}
use Rattle.resolver.proofs.BlockRows.{row_step, row_all}
use Rattle.resolver.proofs.monitors.members.Goals as goal

pub loop-tree-preserved : goal.loop-tree-preserved
loop-tree-preserved c =
    row_step (λ x. member_kind x.kind) member_of _ _ _ c.args.trees.now c.loop-tree.tree-index _ c.loop-tree-test.true
    c.in_ok-push.ensures.items c.member_kind.ensures c.loop-tree.invariant

pub returns : goal.returns
returns c =
    row_all (λ ts. member_kinds (map member_of ts)) _ c.args.trees.now c.loop-tree.tree-index c.loop-tree-test.false
    c.loop-tree.invariant
