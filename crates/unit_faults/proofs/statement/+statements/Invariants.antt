use Rattle.std.proofs.Common.{Option, drop}
use Rattle.scanner.specs.declared.refusal.Refusal.{Refusal}
use Rattle.syntax.specs.View.{statements_in}
use Rattle.types.specs.CallFaults.{block_faults}
use Rattle.types.specs.Faults.{Gathers}
use Rattle.types.specs.Scope.{Scope}
use Rattle.unit_faults.specs.Contexts.{IsContext}
use Rattle.unit_faults.proofs.statement.+statements.Given as goal

-- what gathers the faults of those that are left gathers all
abbrev pub invariant-block-loop-tree : goal.invariant-block-loop-tree
invariant-block-loop-tree l = (s : Scope) → IsContext s l.context → (least : Option Refusal)
    → Gathers (block_faults s (statements_in (drop l.tree-index l.statements))) l.all least
    → Gathers (block_faults s (statements_in l.statements)) l.fn.least least
