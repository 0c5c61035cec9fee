use Rattle.std.proofs.Common.{◌≤◌, [], ◌∷◌, length, ◌+◌, ◌*◌}
use Rattle.syntax.specs.View.{multipliers_before, summands_before, relations_before, conjunctions_before}
use Rattle.grammar.specs.Machine.{Multipliers, Summands, Relations, Conjunctions}
use Rattle.grammar.specs.Reading.{Leads}
use Rattle.token_cursor.specs.Ahead.{ahead}
use Rattle.expression_parser.proofs.levels.+expression.Given as goal

abbrev pub decreases-variable : goal.decreases-variable
decreases-variable l = 7 * length (ahead l.parser.now)

abbrev pub decreases-factor : goal.decreases-factor
decreases-factor l = 7 * length (ahead l.parser.now)

abbrev pub decreases-operand : goal.decreases-operand
decreases-operand l = 7 * length (ahead l.parser.now) + 1

abbrev pub decreases-product : goal.decreases-product
decreases-product l = 7 * length (ahead l.parser.now)

abbrev pub decreases-multipliers : goal.decreases-multipliers
decreases-multipliers l = 7 * length (ahead l.parser.now) + 1

abbrev pub decreases-term : goal.decreases-term
decreases-term l = 7 * length (ahead l.parser.now) + 1

abbrev pub decreases-total : goal.decreases-total
decreases-total l = 7 * length (ahead l.parser.now)

abbrev pub decreases-summands : goal.decreases-summands
decreases-summands l = 7 * length (ahead l.parser.now) + 2

abbrev pub decreases-sum : goal.decreases-sum
decreases-sum l = 7 * length (ahead l.parser.now) + 2

abbrev pub decreases-relation_from : goal.decreases-relation_from
decreases-relation_from l = 7 * length (ahead l.parser.now)

abbrev pub decreases-relation : goal.decreases-relation
decreases-relation l = 7 * length (ahead l.parser.now) + 3

abbrev pub decreases-conjunction_from : goal.decreases-conjunction_from
decreases-conjunction_from l = 7 * length (ahead l.parser.now)

abbrev pub decreases-relations : goal.decreases-relations
decreases-relations l = 7 * length (ahead l.parser.now) + 4

abbrev pub decreases-conjunction : goal.decreases-conjunction
decreases-conjunction l = 7 * length (ahead l.parser.now) + 4

abbrev pub decreases-expression_from : goal.decreases-expression_from
decreases-expression_from l = 7 * length (ahead l.parser.now)

abbrev pub decreases-conjunctions : goal.decreases-conjunctions
decreases-conjunctions l = 7 * length (ahead l.parser.now) + 5

abbrev pub decreases-expression : goal.decreases-expression
decreases-expression l = 7 * length (ahead l.parser.now) + 5

abbrev pub decreases-expression_before : goal.decreases-expression_before
decreases-expression_before l = 7 * length (ahead l.parser.now) + 6

abbrev pub invariant-multipliers-multipliers : goal.invariant-multipliers-multipliers
invariant-multipliers-multipliers l = record {
  read : Leads l.depth (Multipliers ∷ []) (Multipliers ∷ []) (λ y. (multipliers_before l.rest.items y.0, tt))
      (ahead l.fn.parser) (ahead l.parser);
  within : length (ahead l.parser) ≤ length (ahead l.fn.parser);
}

abbrev pub decreases-multipliers-multipliers : goal.decreases-multipliers-multipliers
decreases-multipliers-multipliers l = length (ahead l.parser)

abbrev pub invariant-summands-summands : goal.invariant-summands-summands
invariant-summands-summands l = record {
  read : Leads l.depth (Summands ∷ []) (Summands ∷ []) (λ y. (summands_before l.rest.items y.0, tt))
      (ahead l.fn.parser) (ahead l.parser);
  within : length (ahead l.parser) ≤ length (ahead l.fn.parser);
}

abbrev pub decreases-summands-summands : goal.decreases-summands-summands
decreases-summands-summands l = length (ahead l.parser)

abbrev pub invariant-relations-relations : goal.invariant-relations-relations
invariant-relations-relations l = record {
  read : Leads l.depth (Relations ∷ []) (Relations ∷ []) (λ y. (relations_before l.rest.items y.0, tt))
      (ahead l.fn.parser) (ahead l.parser);
  within : length (ahead l.parser) ≤ length (ahead l.fn.parser);
}

abbrev pub decreases-relations-relations : goal.decreases-relations-relations
decreases-relations-relations l = length (ahead l.parser)

abbrev pub invariant-conjunctions-conjunctions : goal.invariant-conjunctions-conjunctions
invariant-conjunctions-conjunctions l = record {
  read : Leads l.depth (Conjunctions ∷ []) (Conjunctions ∷ []) (λ y. (conjunctions_before l.rest.items y.0, tt))
      (ahead l.fn.parser) (ahead l.parser);
  within : length (ahead l.parser) ≤ length (ahead l.fn.parser);
}

abbrev pub decreases-conjunctions-conjunctions : goal.decreases-conjunctions-conjunctions
decreases-conjunctions-conjunctions l = length (ahead l.parser)
