use Rattle.std.proofs.Common.{Option, map, drop}
use Rattle.scanner.specs.declared.refusal.Refusal.{Refusal}
use Rattle.syntax.specs.View.{expression_of, parameter_of}
use Rattle.types.specs.Faults.{Gathers}
use Rattle.types.specs.Scope.{Scope}
use Rattle.types.specs.Standings.{IsNameScope}
use Rattle.types.specs.StatementFaults.{matched_faults}
use Rattle.unit_faults.proofs.arguments.matched.Given as goal

-- what gathers the faults of those that are left gathers all
abbrev pub invariant-loop-number : goal.invariant-loop-number
invariant-loop-number l = (s : Scope) → IsNameScope s l.standing → (least : Option Refusal)
    → Gathers (matched_faults s (map expression_of (drop l.number l.trees))
    (map parameter_of (drop l.number l.parameters))) l.all least
    → Gathers (matched_faults s (map expression_of l.trees) (map parameter_of l.parameters)) l.fn.least least
