-- The trees of expressions, without pointers.
use Rattle.scanner.specs.declared.token.Place.{Place}
use Rattle.syntax.specs.declared.leaf.Number.{Number}
use Rattle.syntax.specs.declared.leaf.Truth.{Truth}
use Rattle.syntax.specs.declared.expression.Comparator.{Comparator}
use Rattle.syntax.specs.declared.expression.SumOperator.{SumOperator}
use Rattle.syntax.specs.declared.expression.ProductOperator.{ProductOperator}
use Rattle.syntax.specs.Lexeme.{NameTree}

-- an expression, and all that it is made of
mutual
  -- conjunctions with OR between them
  pub data ExpressionTree : Type 0 where
    AnyOf : ConjunctionTree → ConjunctionTrees → ExpressionTree

  -- further conjunctions, each after an OR
  pub data ConjunctionTrees : Type 0 where
    NoConjunctions : ConjunctionTrees
    OrElse : ConjunctionTree → ConjunctionTrees → ConjunctionTrees

  -- relations with AND between them
  pub data ConjunctionTree : Type 0 where
    AllOf : RelationTree → RelationTrees → ConjunctionTree

  -- further relations, each after an AND
  pub data RelationTrees : Type 0 where
    NoRelations : RelationTrees
    AndAlso : RelationTree → RelationTrees → RelationTrees

  -- a sum, and what it is compared with
  pub data RelationTree : Type 0 where
    Relates : SumTree → ComparisonTree → RelationTree

  -- the sign of a comparison and its right side, if there is one
  pub data ComparisonTree : Type 0 where
    NoComparison : ComparisonTree
    Compares : Comparator → SumTree → ComparisonTree

  -- terms with `+` or `-` between them
  pub data SumTree : Type 0 where
    Total : TermTree → SummandTrees → SumTree

  -- further terms, each after its sign at a place
  pub data SummandTrees : Type 0 where
    NoSummands : SummandTrees
    Adds : SumOperator → Place → TermTree → SummandTrees → SummandTrees

  -- factors with `*`, `/` or MOD between them
  pub data TermTree : Type 0 where
    Product : FactorTree → MultiplierTrees → TermTree

  -- further factors, each after its operator
  pub data MultiplierTrees : Type 0 where
    NoMultipliers : MultiplierTrees
    Scales : ProductOperator → FactorTree → MultiplierTrees → MultiplierTrees

  -- what stands between operators
  pub data FactorTree : Type 0 where
    Constant : Number → FactorTree
    Truthful : Truth → FactorTree
    Reads : NameTree → IndexTree → FactorTree
    Group : Place → ExpressionTree → FactorTree
    Minus : Place → FactorTree → FactorTree
    Not : Place → FactorTree → FactorTree

  -- the index behind a name
  pub data IndexTree : Type 0 where
    NoIndex : IndexTree
    At : ExpressionTree → IndexTree
