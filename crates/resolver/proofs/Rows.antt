-- Rows of operands in code, as chains of the tree.
use Rattle.std.proofs.Common.{Box, ◌≡◌, List, Global, ap, ◌∙◌, sym}
use Rattle.syntax.specs.declared.expression.Conjunction.TheBlock.{hidden-the_row-Conjunction-1}
use Rattle.syntax.specs.declared.expression.Conjunction.TheBlock.{items_hidden-the_row-Conjunction-1}
use Rattle.syntax.specs.declared.expression.Conjunction.TheBlock.{hidden-the_row-Relation-0}
use Rattle.syntax.specs.declared.expression.Conjunction.TheBlock.{items_hidden-the_row-Relation-0}
use Rattle.syntax.specs.declared.expression.Conjunction.TheBlock.{struct-Product}
use Rattle.syntax.specs.declared.expression.Conjunction.TheBlock.{struct-Total, items_shown-the_row-Multiplier-2}
use Rattle.syntax.specs.declared.expression.Conjunction.TheBlock.{items_shown-the_row-Summand-3}
use Rattle.syntax.specs.declared.expression.Conjunction.TheViews.{AnyOf as AnyOfMade, Conjunction::AllOf as AllOfMade}
use Rattle.syntax.specs.declared.expression.AnyOf.{AnyOf as AnyOfType}
use Rattle.syntax.specs.declared.expression.AllOf.{AllOf as AllOfType}
use Rattle.syntax.specs.declared.expression.Product.{Product, out-Product}
use Rattle.syntax.specs.declared.expression.Total.{Total, out-Total}
use Rattle.syntax.specs.declared.expression.Multiplier.{Multiplier}
use Rattle.syntax.specs.declared.expression.Summand.{Summand}
use Rattle.syntax.specs.Tree.{AnyOf, OrElse, AllOf, AndAlso, Adds, Scales}
use Rattle.syntax.specs.Tree.{Total as TotalTree, Product as ProductTree}
use Rattle.syntax.specs.View.{conjunction_of, relation_of, total_of}
use Rattle.syntax.specs.View.{term_of, product_of, factor_of, conjunctions_in, relations_in}
use Rattle.syntax.specs.View.{summands_in, multipliers_in, expression_of}
use Rattle.syntax.proofs.Built.{row_conjunctions, row_relations, row_summands, row_multipliers}

pub all_of_seen : (y : Box AllOfType Global)
    → AllOf (relation_of y.value.first) (AndAlso (relation_of y.value.second) (relations_in y.value.rest.items))
    ≡ conjunction_of (AllOfMade y)
all_of_seen y = ap (λ rs. AllOf (relation_of y.value.first) (AndAlso (relation_of y.value.second) rs))
    (sym (row_relations (hidden-the_row-Relation-0 y.value.rest)
    ∙ ap relations_in (items_hidden-the_row-Relation-0 y.value.rest)))

pub any_of_seen : (y : Box AnyOfType Global)
    → AnyOf (conjunction_of y.value.first) (OrElse (conjunction_of y.value.second) (conjunctions_in y.value.rest.items))
    ≡ expression_of (AnyOfMade y)
any_of_seen y = ap (λ cs. AnyOf (conjunction_of y.value.first) (OrElse (conjunction_of y.value.second) cs))
    (sym (row_conjunctions (hidden-the_row-Conjunction-1 y.value.rest)
    ∙ ap conjunctions_in (items_hidden-the_row-Conjunction-1 y.value.rest)))

pub product_seen : (y : Product) (ms : List Multiplier) → ms ≡ (out-Product y).rest.items
    → ProductTree (factor_of (out-Product y).first) (Scales (out-Product y).second.operator
    (factor_of (out-Product y).second.factor) (multipliers_in ms)) ≡ product_of y
unfolding out-Product denote.Hole.Carrier.out
product_seen (struct-Product f op g n row) ms e = ap (λ xs. ProductTree (factor_of f) (Scales op (factor_of g) xs))
    (ap multipliers_in (e ∙ items_shown-the_row-Multiplier-2 n row) ∙ sym (row_multipliers row))

pub total_seen : (y : Total) (ss : List Summand) → ss ≡ (out-Total y).rest.items
    → TotalTree (term_of (out-Total y).first) (Adds (out-Total y).second.operator (out-Total y).second.place
    (term_of (out-Total y).second.term) (summands_in ss)) ≡ total_of y
unfolding out-Total denote.Hole.Carrier.out
total_seen (struct-Total t op place u n row) ss e = ap (λ xs. TotalTree (term_of t) (Adds op place (term_of u) xs))
    (ap summands_in (e ∙ items_shown-the_row-Summand-3 n row) ∙ sym (row_summands row))
