use Rattle.std.proofs.Common.{◌≡◌, ◌&&◌, drop}
use Rattle.program.specs.Views.{expression_of}
use Rattle.syntax.specs.View.{conjunctions_in, relations_in, summands_in, multipliers_in}
use Rattle.types.specs.ExpressionFaults as f
use Rattle.types.specs.Expressions as x
use Rattle.types.specs.Scope.{Scope}
use Rattle.types.specs.Standings.{IsNameScope}
use Rattle.resolver.specs.Clean.{is_clean}
use Rattle.resolver.proofs.expressions.+expressions.Given as goal

-- what was folded, with those that are left behind it, is the whole chain, and as clean
abbrev pub invariant-product-loop-multiplier : goal.invariant-product-loop-multiplier
invariant-product-loop-multiplier l = (s : Scope) → IsNameScope s l.standing
    → (x.product s (expression_of l.left) (multipliers_in (drop l.multiplier-index l.multiplier-items))
    ≡ x.product s (expression_of l.initial.left) (multipliers_in l.multiplier-items))
    × ((l.is_clean && is_clean (f.multipliers_faults s (multipliers_in (drop l.multiplier-index l.multiplier-items))))
    ≡ (l.initial.is_clean && is_clean (f.multipliers_faults s (multipliers_in l.multiplier-items))))

-- what was folded, with those that are left behind it, is the whole chain, and as clean
abbrev pub invariant-total-loop-summand : goal.invariant-total-loop-summand
invariant-total-loop-summand l = (s : Scope) → IsNameScope s l.standing
    → (x.total s (expression_of l.left) (summands_in (drop l.summand-index l.summand-items))
    ≡ x.total s (expression_of l.initial.left) (summands_in l.summand-items))
    × ((l.is_clean && is_clean (f.summands_faults s (summands_in (drop l.summand-index l.summand-items))))
    ≡ (l.initial.is_clean && is_clean (f.summands_faults s (summands_in l.summand-items))))

-- what was folded, with those that are left behind it, is the whole chain, and as clean
abbrev pub invariant-all_of-loop-further : goal.invariant-all_of-loop-further
invariant-all_of-loop-further l = (s : Scope) → IsNameScope s l.standing
    → (x.all_of s (expression_of l.left) (relations_in (drop l.further-index l.further-items))
    ≡ x.all_of s (expression_of l.initial.left) (relations_in l.further-items))
    × ((l.is_clean && is_clean (f.relations_faults s (relations_in (drop l.further-index l.further-items))))
    ≡ (l.initial.is_clean && is_clean (f.relations_faults s (relations_in l.further-items))))

-- what was folded, with those that are left behind it, is the whole chain, and as clean
abbrev pub invariant-any_of-loop-further : goal.invariant-any_of-loop-further
invariant-any_of-loop-further l = (s : Scope) → IsNameScope s l.standing
    → (x.any_of s (expression_of l.left) (conjunctions_in (drop l.further-index l.further-items))
    ≡ x.any_of s (expression_of l.initial.left) (conjunctions_in l.further-items))
    × ((l.is_clean && is_clean (f.conjunctions_faults s (conjunctions_in (drop l.further-index l.further-items))))
    ≡ (l.initial.is_clean && is_clean (f.conjunctions_faults s (conjunctions_in l.further-items))))
