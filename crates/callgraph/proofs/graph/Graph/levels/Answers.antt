use Rattle.std.proofs.Common.{subst}
use Rattle.callgraph.specs.Levels.{NeverRise}
use Rattle.callgraph.proofs.graph.Graph.levels.Goals as goal

pub returns-then-never_rises : goal.returns-then-never_rises
returns-then-never_rises c calls g =
    subst (λ levels. NeverRise calls levels) c.deref.ensures.value (c.never_rises.ensures c.if-never_rises.true calls g)
