use Rattle.std.proofs.Common.{◌≡◌, map, take}
use Rattle.program.specs.Names.{monitor_naming_of}
use Rattle.syntax.specs.View.{monitor_of}
use Rattle.resolver.proofs.name_lists.names.Given as goal

abbrev pub invariant-loop-tree : goal.invariant-loop-tree
invariant-loop-tree l = map monitor_naming_of l.monitors.items
    ≡ map (λ m. record { name = m.name.text; members = map (λ x. x.name.text) m.members })
    (map monitor_of (take l.tree-index l.tree-items))
