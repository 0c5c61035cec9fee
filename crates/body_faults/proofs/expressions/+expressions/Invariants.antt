use Rattle.std.proofs.Common.{Option, drop}
use Rattle.scanner.specs.declared.refusal.Refusal.{Refusal}
use Rattle.syntax.specs.View.{conjunctions_in, relations_in, summands_in, multipliers_in}
use Rattle.types.specs.Scope.{Scope}
use Rattle.types.specs.Standings.{IsNameScope}
use Rattle.types.specs.Faults.{Gathers}
use Rattle.types.specs.ExpressionFaults.{multipliers_faults, summands_faults, relations_faults, conjunctions_faults}
use Rattle.body_faults.proofs.expressions.+expressions.Given as goal

-- what gathers the faults of those that are left gathers all
abbrev pub invariant-product-loop-multiplier : goal.invariant-product-loop-multiplier
invariant-product-loop-multiplier l = (s : Scope) → IsNameScope s l.standing → (least : Option Refusal)
    → Gathers (multipliers_faults s (multipliers_in (drop l.multiplier-index l.multiplier-items))) l.all least
    → Gathers (multipliers_faults s (multipliers_in l.multiplier-items)) l.initial.all least

-- what gathers the faults of those that are left gathers all
abbrev pub invariant-total-loop-summand : goal.invariant-total-loop-summand
invariant-total-loop-summand l = (s : Scope) → IsNameScope s l.standing → (least : Option Refusal)
    → Gathers (summands_faults s (summands_in (drop l.summand-index l.summand-items))) l.all least
    → Gathers (summands_faults s (summands_in l.summand-items)) l.initial.all least

-- what gathers the faults of those that are left gathers all
abbrev pub invariant-all_of-loop-further : goal.invariant-all_of-loop-further
invariant-all_of-loop-further l = (s : Scope) → IsNameScope s l.standing → (least : Option Refusal)
    → Gathers (relations_faults s (relations_in (drop l.further-index l.further-items))) l.all least
    → Gathers (relations_faults s (relations_in l.further-items)) l.initial.all least

-- what gathers the faults of those that are left gathers all
abbrev pub invariant-any_of-loop-further : goal.invariant-any_of-loop-further
invariant-any_of-loop-further l = (s : Scope) → IsNameScope s l.standing → (least : Option Refusal)
    → Gathers (conjunctions_faults s (conjunctions_in (drop l.further-index l.further-items))) l.all least
    → Gathers (conjunctions_faults s (conjunctions_in l.further-items)) l.initial.all least
