use Rattle.std.proofs.Common.{◌≡◌, map, take}
use Rattle.syntax.specs.View.{member_of}
use Rattle.types.specs.Kinds.{member_kinds}
use Rattle.resolver.proofs.monitors.members.Given as goal

abbrev pub invariant-loop-tree : goal.invariant-loop-tree
invariant-loop-tree l = l.kinds.items ≡ member_kinds (map member_of (take l.tree-index l.trees))
