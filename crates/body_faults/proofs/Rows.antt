-- The faults of products, totals and what AND and OR join, from those of their operands.
use Rattle.std.proofs.Common.{Box, ◌≡◌, List, Option, Global, ap, ◌∙◌, sym, subst}
use Rattle.scanner.specs.declared.refusal.Refusal.{Refusal}
use Rattle.program.specs.declared.kinds.ValueType.TheVariants.{Integer}
use Rattle.syntax.specs.declared.expression.Conjunction.TheBlock.{hidden-the_row-Conjunction-1}
use Rattle.syntax.specs.declared.expression.Conjunction.TheBlock.{items_hidden-the_row-Conjunction-1}
use Rattle.syntax.specs.declared.expression.Conjunction.TheBlock.{hidden-the_row-Relation-0}
use Rattle.syntax.specs.declared.expression.Conjunction.TheBlock.{items_hidden-the_row-Relation-0}
use Rattle.syntax.specs.declared.expression.Conjunction.TheBlock.{struct-Product}
use Rattle.syntax.specs.declared.expression.Conjunction.TheBlock.{struct-Total, items_shown-the_row-Multiplier-2}
use Rattle.syntax.specs.declared.expression.Conjunction.TheBlock.{items_shown-the_row-Summand-3}
use Rattle.syntax.specs.declared.expression.Conjunction.TheViews.{AnyOf as AnyOfMade, Conjunction::AllOf as AllOfMade}
use Rattle.syntax.specs.declared.expression.AnyOf.{AnyOf as AnyOfType}
use Rattle.syntax.specs.declared.expression.AllOf.{AllOf as AllOfType}
use Rattle.syntax.specs.declared.expression.Product.{Product, out-Product}
use Rattle.syntax.specs.declared.expression.Total.{Total, out-Total}
use Rattle.syntax.specs.declared.expression.Multiplier.{Multiplier}
use Rattle.syntax.specs.declared.expression.Summand.{Summand}
use Rattle.syntax.specs.View.{conjunction_of, relation_of, total_of, summands_of}
use Rattle.syntax.specs.View.{term_of, product_of, factor_of, multipliers_of, conjunctions_in, relations_in}
use Rattle.syntax.specs.View.{summands_in, multipliers_in, expression_of}
use Rattle.syntax.proofs.Built.{row_conjunctions, row_relations, row_summands, row_multipliers}
use Rattle.types.specs.Scope.{Scope}
use Rattle.types.specs.Faults.{Gathers}
use Rattle.types.specs.Typing.{factor_type, term_type, factor_place, term_place}
use Rattle.types.specs.ExpressionFaults.{wants, factor_faults, term_faults, sum_faults, conjunction_faults}
use Rattle.types.specs.ExpressionFaults.{expression_faults, multipliers_faults, summands_faults}
use Rattle.body_faults.specs.Operands as o
use Rattle.body_faults.proofs.Gathering.{gathers_chain}

pub all_of_seen : (s : Scope) (x : Box AllOfType Global)
    → o.all_of s (relation_of x.value.first) (relation_of x.value.second) (relations_in x.value.rest.items)
    ≡ conjunction_faults s (conjunction_of (AllOfMade x))
all_of_seen s x = ap (o.all_of s (relation_of x.value.first) (relation_of x.value.second))
    (sym (row_relations (hidden-the_row-Relation-0 x.value.rest)
    ∙ ap relations_in (items_hidden-the_row-Relation-0 x.value.rest)))

pub any_of_seen : (s : Scope) (x : Box AnyOfType Global)
    → o.any_of s (conjunction_of x.value.first) (conjunction_of x.value.second) (conjunctions_in x.value.rest.items)
    ≡ expression_faults s (expression_of (AnyOfMade x))
any_of_seen s x = ap (o.any_of s (conjunction_of x.value.first) (conjunction_of x.value.second))
    (sym (row_conjunctions (hidden-the_row-Conjunction-1 x.value.rest)
    ∙ ap conjunctions_in (items_hidden-the_row-Conjunction-1 x.value.rest)))

pub gathers_product : (s : Scope) (x : Product) (ms : List Multiplier) (a b c d : Option Refusal)
    → ms ≡ (out-Product x).rest.items → Gathers (o.factor_operand s Integer (factor_of (out-Product x).first)) a b
    → Gathers (o.factor_operand s Integer (factor_of (out-Product x).second.factor)) b c
    → Gathers (multipliers_faults s (multipliers_in ms)) c d → Gathers (term_faults s (product_of x)) a d
unfolding out-Product denote.Hole.Carrier.out
gathers_product s (struct-Product f op g n row) ms a b c d e x y z =
    gathers_chain (factor_faults s (factor_of f)) (wants Integer (factor_type s (factor_of f))
    (factor_place (factor_of f)))
    (factor_faults s (factor_of g)) (wants Integer (factor_type s (factor_of g)) (factor_place (factor_of g)))
    (multipliers_faults s (multipliers_of row)) a b c d x y
    (subst (λ fs. Gathers (multipliers_faults s fs) c d)
    (ap multipliers_in (e ∙ items_shown-the_row-Multiplier-2 n row) ∙ sym (row_multipliers row)) z)

pub gathers_total : (s : Scope) (x : Total) (ss : List Summand) (a b c d : Option Refusal)
    → ss ≡ (out-Total x).rest.items → Gathers (o.term_operand s (term_of (out-Total x).first)) a b
    → Gathers (o.term_operand s (term_of (out-Total x).second.term)) b c
    → Gathers (summands_faults s (summands_in ss)) c d → Gathers (sum_faults s (total_of x)) a d
unfolding out-Total denote.Hole.Carrier.out
gathers_total s (struct-Total t op place u n row) ss a b c d e x y z =
    gathers_chain (term_faults s (term_of t)) (wants Integer (term_type s (term_of t)) (term_place (term_of t)))
    (term_faults s (term_of u)) (wants Integer (term_type s (term_of u)) (term_place (term_of u)))
    (summands_faults s (summands_of row)) a b c d x y
    (subst (λ ts. Gathers (summands_faults s ts) c d)
    (ap summands_in (e ∙ items_shown-the_row-Summand-3 n row) ∙ sym (row_summands row)) z)
