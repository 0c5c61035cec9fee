use Rattle.std.proofs.Common.{Option, map, drop}
use Rattle.scanner.specs.declared.refusal.Refusal.{Refusal}
use Rattle.syntax.specs.View.{expression_of}
use Rattle.types.specs.Faults.{Gathers}
use Rattle.types.specs.Scope.{Scope}
use Rattle.types.specs.Standings.{IsNameScope}
use Rattle.types.specs.StatementFaults.{arguments_faults}
use Rattle.unit_faults.proofs.arguments.arguments.Given as goal

-- what gathers the faults of those that are left gathers all
abbrev pub invariant-loop-tree : goal.invariant-loop-tree
invariant-loop-tree l = (s : Scope) → IsNameScope s l.standing → (least : Option Refusal)
    → Gathers (arguments_faults s (map expression_of (drop l.tree-index l.trees))) l.all least
    → Gathers (arguments_faults s (map expression_of l.trees)) l.fn.least least
