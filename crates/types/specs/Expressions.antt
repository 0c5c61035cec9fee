-- What expressions are resolved to: chains are folded to the left, and parentheses leave no trace.
use Rattle.program.specs.declared.kinds.Member.{Member as MemberOf}
use Rattle.program.specs.declared.kinds.UnaryOperator.TheVariants as U
use Rattle.program.specs.declared.kinds.Operator.{Operator}
use Rattle.program.specs.declared.kinds.Operator.TheVariants as O
use Rattle.program.specs.Trees.{Expression, Constant as Number', Truth, Local, Member, Element, Unary, Both}
use Rattle.syntax.specs.declared.expression.Comparator.{Comparator}
use Rattle.syntax.specs.declared.expression.Comparator.TheVariants as C
use Rattle.syntax.specs.declared.expression.SumOperator.{SumOperator}
use Rattle.syntax.specs.declared.expression.SumOperator.TheVariants.{Plus, Minus as Minus'}
use Rattle.syntax.specs.declared.expression.ProductOperator.{ProductOperator}
use Rattle.syntax.specs.declared.expression.ProductOperator.TheVariants.{Times, Divide, Mod}
use Rattle.syntax.specs.Tree.{ExpressionTree, AnyOf, ConjunctionTrees, NoConjunctions, OrElse, ConjunctionTree, AllOf}
use Rattle.syntax.specs.Tree.{RelationTrees, NoRelations, AndAlso, RelationTree, Relates, ComparisonTree}
use Rattle.syntax.specs.Tree.{NoComparison}
use Rattle.syntax.specs.Tree.{Compares, SumTree, Total, SummandTrees, NoSummands, Adds, TermTree, Product}
use Rattle.syntax.specs.Tree.{MultiplierTrees, NoMultipliers, Scales, FactorTree, Constant, Truthful, Reads, Group}
use Rattle.syntax.specs.Tree.{Minus, Not, IndexTree, NoIndex, At}
use Rattle.types.specs.Scope.{Scope, Meaning, Nothing, ALocal, AMember, meaning}

-- the operator that a comparison's sign stands for
abbrev pub comparison_operator : Comparator → Operator
comparison_operator C.Equal = O.Equal
comparison_operator C.NotEqual = O.NotEqual
comparison_operator C.Less = O.Less
comparison_operator C.LessEqual = O.LessEqual
comparison_operator C.Greater = O.Greater
comparison_operator C.GreaterEqual = O.GreaterEqual

-- the operator that the sign of a sum stands for
abbrev pub sum_operator : SumOperator → Operator
sum_operator Plus = O.Add
sum_operator Minus' = O.Subtract

-- the operator that the sign of a product stands for
abbrev pub product_operator : ProductOperator → Operator
product_operator Times = O.Multiply
product_operator Divide = O.Divide
product_operator Mod = O.Modulo

-- what a name is read as; one that means nothing is read as local 0
abbrev pub variable_of : Meaning → Expression
variable_of Nothing = Local 0
variable_of (ALocal slot kind) = Local slot
variable_of (AMember member kind) = Member member

-- the member that a name with an index means, member 0 of monitor 0 where it means none
abbrev pub array_of : Meaning → MemberOf
array_of Nothing = record { monitor = 0; number = 0 }
array_of (ALocal slot kind) = record { monitor = 0; number = 0 }
array_of (AMember member kind) = member

abbrev mutual
  pub expression : Scope → ExpressionTree → Expression
  expression s (AnyOf c cs) = any_of s (conjunction s c) cs

  -- an expression and further conjunctions behind it
  pub any_of : Scope → Expression → ConjunctionTrees → Expression
  any_of s left NoConjunctions = left
  any_of s left (OrElse c cs) = any_of s (Both O.Or left (conjunction s c)) cs

  pub conjunction : Scope → ConjunctionTree → Expression
  conjunction s (AllOf r rs) = all_of s (relation s r) rs

  pub all_of : Scope → Expression → RelationTrees → Expression
  all_of s left NoRelations = left
  all_of s left (AndAlso r rs) = all_of s (Both O.And left (relation s r)) rs

  pub relation : Scope → RelationTree → Expression
  relation s (Relates l r) = compared s (sum s l) r

  pub compared : Scope → Expression → ComparisonTree → Expression
  compared s left NoComparison = left
  compared s left (Compares sign r) = Both (comparison_operator sign) left (sum s r)

  pub sum : Scope → SumTree → Expression
  sum s (Total t ts) = total s (term s t) ts

  pub total : Scope → Expression → SummandTrees → Expression
  total s left NoSummands = left
  total s left (Adds sign place t ts) = total s (Both (sum_operator sign) left (term s t)) ts

  pub term : Scope → TermTree → Expression
  term s (Product f fs) = product s (factor s f) fs

  pub product : Scope → Expression → MultiplierTrees → Expression
  product s left NoMultipliers = left
  product s left (Scales operator f fs) = product s (Both (product_operator operator) left (factor s f)) fs

  pub factor : Scope → FactorTree → Expression
  factor s (Constant n) = Number' n.value
  factor s (Truthful t) = Truth t.value
  factor s (Reads name index) = read s (meaning s name) index
  factor s (Group place e) = expression s e
  factor s (Minus place f) = Unary U.Negate (factor s f)
  factor s (Not place f) = Unary U.Not (factor s f)

  pub read : Scope → Meaning → IndexTree → Expression
  read s m NoIndex = variable_of m
  read s m (At e) = Element (array_of m) (expression s e)
