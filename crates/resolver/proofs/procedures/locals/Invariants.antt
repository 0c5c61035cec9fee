use Rattle.std.proofs.Common.{◌≡◌, map, take}
use Rattle.syntax.specs.View.{local_of}
use Rattle.types.specs.Kinds.{locals_kinds}
use Rattle.resolver.proofs.procedures.locals.Given as goal

abbrev pub invariant-loop-tree : goal.invariant-loop-tree
invariant-loop-tree l = l.kinds.items ≡ locals_kinds (map local_of (take l.tree-index l.trees))
