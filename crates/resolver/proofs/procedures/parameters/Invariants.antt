use Rattle.std.proofs.Common.{◌≡◌, map, take}
use Rattle.syntax.specs.View.{parameter_of}
use Rattle.types.specs.Kinds.{parameter_kinds}
use Rattle.resolver.proofs.procedures.parameters.Given as goal

abbrev pub invariant-loop-tree : goal.invariant-loop-tree
invariant-loop-tree l = l.kinds.items ≡ parameter_kinds (map parameter_of (take l.tree-index l.trees))
