-- What the trees of expressions in code say, without pointers.
use Rattle.std.specs.Prelude.{Option, Some, None}
use Rattle.syntax.specs.declared.leaf.Name.{Name}
use Rattle.syntax.specs.declared.expression.Conjunction.TheBlock.{Number, Truth, Name as NameFactor, Element', Group'}
use Rattle.syntax.specs.declared.expression.Conjunction.TheBlock.{Minus', Not', Term::Factor, Term::Product'}
use Rattle.syntax.specs.declared.expression.Conjunction.TheBlock.{Sum::Factor, Sum::Product', Sum::Total'}
use Rattle.syntax.specs.declared.expression.Conjunction.TheBlock.{Relation::Factor, Relation::Product'}
use Rattle.syntax.specs.declared.expression.Conjunction.TheBlock.{Relation::Total', Relation::Comparison'}
use Rattle.syntax.specs.declared.expression.Conjunction.TheBlock.{Conjunction::Factor, Conjunction::Product'}
use Rattle.syntax.specs.declared.expression.Conjunction.TheBlock.{Conjunction::Total', Conjunction::Comparison'}
use Rattle.syntax.specs.declared.expression.Conjunction.TheBlock.{Conjunction::AllOf', Expression::Factor}
use Rattle.syntax.specs.declared.expression.Conjunction.TheBlock.{Expression::Product', Expression::Total'}
use Rattle.syntax.specs.declared.expression.Conjunction.TheBlock.{Expression::Comparison', Expression::AllOf', AnyOf'}
use Rattle.syntax.specs.declared.expression.Conjunction.TheBlock.{struct-Product, struct-Total, Row_of-Relation}
use Rattle.syntax.specs.declared.expression.Conjunction.TheBlock.{end_of-Relation, more_of-Relation}
use Rattle.syntax.specs.declared.expression.Conjunction.TheBlock.{Row_of-Conjunction, end_of-Conjunction}
use Rattle.syntax.specs.declared.expression.Conjunction.TheBlock.{more_of-Conjunction, Row_of-Summand, end_of-Summand}
use Rattle.syntax.specs.declared.expression.Conjunction.TheBlock.{more_of-Summand, Row_of-Multiplier}
use Rattle.syntax.specs.declared.expression.Conjunction.TheBlock.{end_of-Multiplier, more_of-Multiplier}
use Rattle.syntax.specs.declared.expression.Expression.{Expression}
use Rattle.syntax.specs.declared.expression.Conjunction.{Conjunction}
use Rattle.syntax.specs.declared.expression.Relation.{Relation}
use Rattle.syntax.specs.declared.expression.Sum.{Sum}
use Rattle.syntax.specs.declared.expression.Total.{Total as TotalOf}
use Rattle.syntax.specs.declared.expression.Term.{Term}
use Rattle.syntax.specs.declared.expression.Product.{Product as ProductOf}
use Rattle.syntax.specs.declared.expression.Factor.{Factor}
use Rattle.syntax.specs.declared.expression.Variable.{Variable}
use Rattle.syntax.specs.declared.expression.Variable.TheVariants.{Name as NameVariable, Element as ElementVariable}
use Rattle.syntax.specs.Lexeme.{NameTree}
use Rattle.syntax.specs.Tree.{ExpressionTree, AnyOf, ConjunctionTrees, NoConjunctions, OrElse, ConjunctionTree, AllOf}
use Rattle.syntax.specs.Tree.{RelationTrees, NoRelations, AndAlso, RelationTree, Relates, NoComparison, Compares}
use Rattle.syntax.specs.Tree.{SumTree, Total, SummandTrees, NoSummands, Adds, TermTree, Product, MultiplierTrees}
use Rattle.syntax.specs.Tree.{NoMultipliers, Scales, FactorTree, Constant, Truthful, Reads, Group, Minus, Not}
use Rattle.syntax.specs.Tree.{NoIndex, At, VariableTree}

-- a name, with its bytes
abbrev pub name_of : Name → NameTree
name_of n = record { text = n.text.now; place = n.place }

-- a level's tree of a factor alone, or of what is alone at a level below
abbrev pub lone_term : FactorTree → TermTree
lone_term f = Product f NoMultipliers

-- a term that is a sum
abbrev pub lone_sum : TermTree → SumTree
lone_sum t = Total t NoSummands

-- a sum that is a relation
abbrev pub lone_relation : SumTree → RelationTree
lone_relation s = Relates s NoComparison

-- a relation that is a conjunction
abbrev pub lone_conjunction : RelationTree → ConjunctionTree
lone_conjunction r = AllOf r NoRelations

-- a conjunction that is an expression
abbrev pub lone_expression : ConjunctionTree → ExpressionTree
lone_expression c = AnyOf c NoConjunctions

-- the tree of an expression, and of all that it is made of
abbrev mutual
  pub expression_of : Expression → ExpressionTree
  expression_of (Expression::Factor f) = lone_expression
      (lone_conjunction (lone_relation (lone_sum (lone_term (factor_of f)))))
  expression_of (Expression::Product' p x) = lone_expression
      (lone_conjunction (lone_relation (lone_sum (product_of x))))
  expression_of (Expression::Total' p x) = lone_expression (lone_conjunction (lone_relation (total_of x)))
  expression_of (Expression::Comparison' p l op r) =
      lone_expression (lone_conjunction (Relates (sum_of l) (Compares op (sum_of r))))
  expression_of (Expression::AllOf' p a b n row) =
      lone_expression (AllOf (relation_of a) (AndAlso (relation_of b) (relations_of row)))
  expression_of (AnyOf' p a b n row) = AnyOf (conjunction_of a) (OrElse (conjunction_of b) (conjunctions_of row))

  pub conjunctions_of : {n : _} → Row_of-Conjunction n → ConjunctionTrees
  conjunctions_of end_of-Conjunction = NoConjunctions
  conjunctions_of (more_of-Conjunction c row) = OrElse (conjunction_of c) (conjunctions_of row)

  pub conjunction_of : Conjunction → ConjunctionTree
  conjunction_of (Conjunction::Factor f) = lone_conjunction (lone_relation (lone_sum (lone_term (factor_of f))))
  conjunction_of (Conjunction::Product' p x) = lone_conjunction (lone_relation (lone_sum (product_of x)))
  conjunction_of (Conjunction::Total' p x) = lone_conjunction (lone_relation (total_of x))
  conjunction_of (Conjunction::Comparison' p l op r) = lone_conjunction (Relates (sum_of l) (Compares op (sum_of r)))
  conjunction_of (Conjunction::AllOf' p a b n row) = AllOf (relation_of a) (AndAlso (relation_of b) (relations_of row))

  pub relations_of : {n : _} → Row_of-Relation n → RelationTrees
  relations_of end_of-Relation = NoRelations
  relations_of (more_of-Relation r row) = AndAlso (relation_of r) (relations_of row)

  pub relation_of : Relation → RelationTree
  relation_of (Relation::Factor f) = lone_relation (lone_sum (lone_term (factor_of f)))
  relation_of (Relation::Product' p x) = lone_relation (lone_sum (product_of x))
  relation_of (Relation::Total' p x) = lone_relation (total_of x)
  relation_of (Relation::Comparison' p l op r) = Relates (sum_of l) (Compares op (sum_of r))

  pub sum_of : Sum → SumTree
  sum_of (Sum::Factor f) = lone_sum (lone_term (factor_of f))
  sum_of (Sum::Product' p x) = lone_sum (product_of x)
  sum_of (Sum::Total' p x) = total_of x

  pub total_of : TotalOf → SumTree
  total_of (struct-Total t op place u n row) = Total (term_of t) (Adds op place (term_of u) (summands_of row))

  pub summands_of : {n : _} → Row_of-Summand n → SummandTrees
  summands_of end_of-Summand = NoSummands
  summands_of (more_of-Summand op place t row) = Adds op place (term_of t) (summands_of row)

  pub term_of : Term → TermTree
  term_of (Term::Factor f) = lone_term (factor_of f)
  term_of (Term::Product' p x) = product_of x

  pub product_of : ProductOf → TermTree
  product_of (struct-Product f op g n row) = Product (factor_of f) (Scales op (factor_of g) (multipliers_of row))

  pub multipliers_of : {n : _} → Row_of-Multiplier n → MultiplierTrees
  multipliers_of end_of-Multiplier = NoMultipliers
  multipliers_of (more_of-Multiplier op f row) = Scales op (factor_of f) (multipliers_of row)

  pub factor_of : Factor → FactorTree
  factor_of (Number n) = Constant n
  factor_of (Truth t) = Truthful t
  factor_of (NameFactor name) = Reads (name_of name) NoIndex
  factor_of (Element' p name e) = Reads (name_of name) (At (expression_of e))
  factor_of (Group' place p e) = Group place (expression_of e)
  factor_of (Minus' place p f) = Minus place (factor_of f)
  factor_of (Not' place p f) = Not place (factor_of f)

-- what is assigned to
abbrev pub variable_of : Variable → VariableTree
variable_of (NameVariable name) = record { name = name_of name; index = NoIndex }
variable_of (ElementVariable e) = record { name = name_of e.value.name; index = At (expression_of e.value.index) }

-- a name that may be left out
abbrev pub option_name : Option Name → Option NameTree
option_name None = None
option_name (Some n) = Some (name_of n)

-- an expression that may be left out
abbrev pub option_expression : Option Expression → Option ExpressionTree
option_expression None = None
option_expression (Some e) = Some (expression_of e)
