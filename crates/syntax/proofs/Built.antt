-- Trees that are built, as the definitions see them.
use Rattle.std.proofs.Common.{Box, ◌≡◌, Option, Some, None, Vec, Global, refl, ap, ◌∙◌}
use Rattle.scanner.specs.declared.token.Place.{Place}
use Rattle.syntax.specs.declared.expression.Conjunction.TheBlock.{Row_of-Conjunction, end_of-Conjunction}
use Rattle.syntax.specs.declared.expression.Conjunction.TheBlock.{more_of-Conjunction, items-the_row-Conjunction}
use Rattle.syntax.specs.declared.expression.Conjunction.TheBlock.{hidden-the_row-Conjunction-1}
use Rattle.syntax.specs.declared.expression.Conjunction.TheBlock.{items_hidden-the_row-Conjunction-1, Row_of-Relation}
use Rattle.syntax.specs.declared.expression.Conjunction.TheBlock.{end_of-Relation, more_of-Relation}
use Rattle.syntax.specs.declared.expression.Conjunction.TheBlock.{items-the_row-Relation, hidden-the_row-Relation-0}
use Rattle.syntax.specs.declared.expression.Conjunction.TheBlock.{items_hidden-the_row-Relation-0, Row_of-Summand}
use Rattle.syntax.specs.declared.expression.Conjunction.TheBlock.{end_of-Summand, more_of-Summand}
use Rattle.syntax.specs.declared.expression.Conjunction.TheBlock.{items-the_row-Summand, hidden-the_row-Summand-3}
use Rattle.syntax.specs.declared.expression.Conjunction.TheBlock.{items_hidden-the_row-Summand-3, Row_of-Multiplier}
use Rattle.syntax.specs.declared.expression.Conjunction.TheBlock.{end_of-Multiplier, more_of-Multiplier}
use Rattle.syntax.specs.declared.expression.Conjunction.TheBlock.{items-the_row-Multiplier}
use Rattle.syntax.specs.declared.expression.Conjunction.TheBlock.{hidden-the_row-Multiplier-2}
use Rattle.syntax.specs.declared.expression.Conjunction.TheBlock.{items_hidden-the_row-Multiplier-2}
use Rattle.syntax.specs.declared.expression.Conjunction.TheViews.{AnyOf as AnyOfMade, Conjunction::AllOf as AllOfMade}
use Rattle.syntax.specs.declared.expression.Conjunction.TheViews.{Relation::Comparison as ComparisonMade}
use Rattle.syntax.specs.declared.expression.Conjunction.TheViews.{Sum::Total as TotalMade}
use Rattle.syntax.specs.declared.expression.Conjunction.TheViews.{Term::Product as ProductMade, roll-AnyOf, roll-AllOf}
use Rattle.syntax.specs.declared.expression.Conjunction.TheViews.{roll-Comparison, roll-Total, roll-Product}
use Rattle.syntax.specs.declared.expression.Expression.{Expression}
use Rattle.syntax.specs.declared.expression.AnyOf.{AnyOf as AnyOfType}
use Rattle.syntax.specs.declared.expression.AllOf.{AllOf as AllOfType}
use Rattle.syntax.specs.declared.expression.Summand.{Summand}
use Rattle.syntax.specs.declared.expression.Term.{Term}
use Rattle.syntax.specs.declared.expression.Multiplier.{Multiplier}
use Rattle.syntax.specs.declared.expression.Factor.{Factor}
use Rattle.syntax.specs.declared.leaf.Name.{Name}
use Rattle.syntax.specs.declared.expression.Comparison.{Comparison as ComparisonType}
use Rattle.syntax.specs.declared.expression.Total.{Total as TotalType}
use Rattle.syntax.specs.declared.expression.Product.{Product as ProductType}
use Rattle.syntax.specs.declared.expression.Comparator.{Comparator}
use Rattle.syntax.specs.declared.expression.Sum.{Sum}
use Rattle.syntax.specs.declared.expression.Conjunction.{Conjunction}
use Rattle.syntax.specs.declared.expression.Relation.{Relation}
use Rattle.syntax.specs.declared.statement.Statement.{Statement}
use Rattle.syntax.specs.declared.statement.Statement.TheBlock.{Row_of-Statement, end_of-Statement, more_of-Statement}
use Rattle.syntax.specs.declared.statement.Statement.TheBlock.{items-the_row-Statement, hidden-the_row-Statement-0}
use Rattle.syntax.specs.declared.statement.Statement.TheBlock.{items_hidden-the_row-Statement-0}
use Rattle.syntax.specs.declared.statement.Statement.TheViews.{If as IfOf, While as WhileOf, Join as JoinOf}
use Rattle.syntax.specs.Tree.{Then, If, While, Join, NoPart, Part, AnyOf, OrElse, AllOf, AndAlso, Relates, Compares}
use Rattle.syntax.specs.Tree.{Total, Adds, Product, Scales}
use Rattle.syntax.specs.View.{option_name, statement_of, statements_of, statements_in, part_in, expression_of}
use Rattle.syntax.specs.View.{conjunction_of, conjunctions_of, relation_of, relations_of, sum_of, total_of}
use Rattle.syntax.specs.View.{summands_of, term_of, product_of, factor_of, multipliers_of, conjunctions_in}
use Rattle.syntax.specs.View.{relations_in, summands_in, multipliers_in}

pub row_conjunctions : {n : _} (row : Row_of-Conjunction n) → conjunctions_of row ≡ conjunctions_in
    (items-the_row-Conjunction _ row)
row_conjunctions end_of-Conjunction = refl
row_conjunctions (more_of-Conjunction c row) = ap (OrElse (conjunction_of c)) (row_conjunctions row)

pub row_relations : {n : _} (row : Row_of-Relation n) → relations_of row ≡ relations_in (items-the_row-Relation _ row)
row_relations end_of-Relation = refl
row_relations (more_of-Relation r row) = ap (AndAlso (relation_of r)) (row_relations row)

pub row_summands : {n : _} (row : Row_of-Summand n) → summands_of row ≡ summands_in (items-the_row-Summand _ row)
row_summands end_of-Summand = refl
row_summands (more_of-Summand op place t row) = ap (Adds op place (term_of t)) (row_summands row)

pub row_multipliers : {n : _} (row : Row_of-Multiplier n) → multipliers_of row ≡ multipliers_in
    (items-the_row-Multiplier _ row)
row_multipliers end_of-Multiplier = refl
row_multipliers (more_of-Multiplier op f row) = ap (Scales op (factor_of f)) (row_multipliers row)

pub any_of_made : (x : Box AnyOfType Global) (c d : Conjunction) (v : Vec Conjunction Global)
    → x.value ≡ roll-AnyOf (record { first = c; second = d; rest = v })
    → expression_of (AnyOfMade x) ≡ AnyOf (conjunction_of c) (OrElse (conjunction_of d) (conjunctions_in v.items))
any_of_made x c d v h =
    ap (λ y. AnyOf (conjunction_of y.first) (OrElse (conjunction_of y.second)
    (conjunctions_of (hidden-the_row-Conjunction-1 y.rest)))) h
    ∙ ap (λ cs. AnyOf (conjunction_of c) (OrElse (conjunction_of d) cs))
    (row_conjunctions (hidden-the_row-Conjunction-1 v) ∙ ap conjunctions_in (items_hidden-the_row-Conjunction-1 v))

pub all_of_made : (x : Box AllOfType Global) (r q : Relation) (v : Vec Relation Global)
    → x.value ≡ roll-AllOf (record { first = r; second = q; rest = v })
    → conjunction_of (AllOfMade x) ≡ AllOf (relation_of r) (AndAlso (relation_of q) (relations_in v.items))
all_of_made x r q v h =
    ap (λ y. AllOf (relation_of y.first) (AndAlso (relation_of y.second)
    (relations_of (hidden-the_row-Relation-0 y.rest)))) h
    ∙ ap (λ rs. AllOf (relation_of r) (AndAlso (relation_of q) rs))
    (row_relations (hidden-the_row-Relation-0 v) ∙ ap relations_in (items_hidden-the_row-Relation-0 v))

pub comparison_made : (x : Box ComparisonType Global) (l r : Sum) (op : Comparator)
    → x.value ≡ roll-Comparison (record { left = l; comparator = op; right = r })
    → relation_of (ComparisonMade x) ≡ Relates (sum_of l) (Compares op (sum_of r))
comparison_made x l r op h = ap (λ y. Relates (sum_of y.left) (Compares y.comparator (sum_of y.right))) h

total_of_made : (t : Term) (s : Summand) (v : Vec Summand Global) → total_of
    (roll-Total (record { first = t; second = s; rest = v })) ≡ Total (term_of t)
    (Adds s.operator s.place (term_of s.term) (summands_in v.items))
unfolding roll-Total denote.Hole.Carrier.roll
total_of_made t s v = ap (λ ts. Total (term_of t) (Adds s.operator s.place (term_of s.term) ts))
    (row_summands (hidden-the_row-Summand-3 v) ∙ ap summands_in (items_hidden-the_row-Summand-3 v))

pub total_made : (x : Box TotalType Global) (t : Term) (s : Summand) (v : Vec Summand Global)
    → x.value ≡ roll-Total (record { first = t; second = s; rest = v })
    → sum_of (TotalMade x) ≡ Total (term_of t) (Adds s.operator s.place (term_of s.term) (summands_in v.items))
total_made x t s v h = ap total_of h ∙ total_of_made t s v

product_of_made : (f : Factor) (m : Multiplier) (v : Vec Multiplier Global)
    → product_of (roll-Product (record { first = f; second = m; rest = v })) ≡ Product (factor_of f)
    (Scales m.operator (factor_of m.factor) (multipliers_in v.items))
unfolding roll-Product denote.Hole.Carrier.roll
product_of_made f m v = ap (λ fs. Product (factor_of f) (Scales m.operator (factor_of m.factor) fs))
    (row_multipliers (hidden-the_row-Multiplier-2 v) ∙ ap multipliers_in (items_hidden-the_row-Multiplier-2 v))

pub product_made : (x : Box ProductType Global) (f : Factor) (m : Multiplier) (v : Vec Multiplier Global)
    → x.value ≡ roll-Product (record { first = f; second = m; rest = v })
    → term_of (ProductMade x) ≡ Product (factor_of f) (Scales m.operator (factor_of m.factor) (multipliers_in v.items))
product_made x f m v h = ap product_of h ∙ product_of_made f m v

row_statements : {n : _} (row : Row_of-Statement n) → statements_of row ≡ statements_in (items-the_row-Statement _ row)
row_statements end_of-Statement = refl
row_statements (more_of-Statement s row) = ap (Then (statement_of s)) (row_statements row)

vec_statements : (v : Vec Statement Global) → statements_of (hidden-the_row-Statement-0 v) ≡ statements_in v.items
vec_statements v = row_statements (hidden-the_row-Statement-0 v) ∙ ap statements_in
    (items_hidden-the_row-Statement-0 v)

pub while_made : (place : Place) (e : Expression) (v : Vec Statement Global)
    → statement_of (WhileOf place e v) ≡ While place (expression_of e) (statements_in v.items)
while_made place e v = ap (While place (expression_of e)) (vec_statements v)

pub if_made : (place : Place) (e : Expression) (v : Vec Statement Global) (o : Option (Vec Statement Global))
    → statement_of (IfOf place e v o) ≡ If place (expression_of e) (statements_in v.items) (part_in o)
if_made place e v None = ap (λ x. If place (expression_of e) x NoPart) (vec_statements v)
if_made place e v (Some w) =
    ap (λ x. If place (expression_of e) x (Part (statements_of (hidden-the_row-Statement-0 w))))
    (vec_statements v) ∙ ap (λ x. If place (expression_of e) (statements_in v.items) (Part x)) (vec_statements w)

pub join_made : (place : Place) (e : Expression) (into : Option Name) (o : Option (Vec Statement Global))
    → statement_of (JoinOf place e into o) ≡ Join place (expression_of e) (option_name into) (part_in o)
join_made place e into None = refl
join_made place e into (Some w) = ap (λ x. Join place (expression_of e) (option_name into) (Part x)) (vec_statements w)
