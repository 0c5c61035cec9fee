-- Numbers of a tree that a program may have.
use Rattle.std.proofs.Common.{◌≤◌, List, [], ◌∷◌, Option, Some, None}
use Rattle.std.specs.Prelude.{⊤}
use Rattle.scanner.specs.Limits.{most_number}
use Rattle.syntax.specs.Tree.{ExpressionTree, AnyOf, ConjunctionTrees, NoConjunctions, OrElse, ConjunctionTree, AllOf}
use Rattle.syntax.specs.Tree.{RelationTrees, NoRelations, AndAlso, RelationTree, Relates, ComparisonTree}
use Rattle.syntax.specs.Tree.{NoComparison}
use Rattle.syntax.specs.Tree.{Compares, SumTree, Total, SummandTrees, NoSummands, Adds, TermTree, Product}
use Rattle.syntax.specs.Tree.{MultiplierTrees, NoMultipliers, Scales, FactorTree, Constant, Truthful, Reads, Group}
use Rattle.syntax.specs.Tree.{Minus, Not, IndexTree, NoIndex, At, StatementTree, Assign, If, While, Call, Fork, Join}
use Rattle.syntax.specs.Tree.{Return, Wait, Notify, Broadcast, Print, Abort, StatementTrees, NoStatements, Then}
use Rattle.syntax.specs.Tree.{PartTree, NoPart, Part}

abbrev mutual
  pub SmallExpression : ExpressionTree → Type 0
  SmallExpression (AnyOf c cs) = SmallConjunction c × SmallConjunctions cs

  pub SmallConjunctions : ConjunctionTrees → Type 0
  SmallConjunctions NoConjunctions = ⊤
  SmallConjunctions (OrElse c cs) = SmallConjunction c × SmallConjunctions cs

  pub SmallConjunction : ConjunctionTree → Type 0
  SmallConjunction (AllOf r rs) = SmallRelation r × SmallRelations rs

  pub SmallRelations : RelationTrees → Type 0
  SmallRelations NoRelations = ⊤
  SmallRelations (AndAlso r rs) = SmallRelation r × SmallRelations rs

  pub SmallRelation : RelationTree → Type 0
  SmallRelation (Relates l r) = SmallSum l × SmallComparison r

  pub SmallComparison : ComparisonTree → Type 0
  SmallComparison NoComparison = ⊤
  SmallComparison (Compares sign r) = SmallSum r

  pub SmallSum : SumTree → Type 0
  SmallSum (Total t ts) = SmallTerm t × SmallSummands ts

  pub SmallSummands : SummandTrees → Type 0
  SmallSummands NoSummands = ⊤
  SmallSummands (Adds sign place t ts) = SmallTerm t × SmallSummands ts

  pub SmallTerm : TermTree → Type 0
  SmallTerm (Product f fs) = SmallFactor f × SmallMultipliers fs

  pub SmallMultipliers : MultiplierTrees → Type 0
  SmallMultipliers NoMultipliers = ⊤
  SmallMultipliers (Scales operator f fs) = SmallFactor f × SmallMultipliers fs

  pub SmallFactor : FactorTree → Type 0
  SmallFactor (Constant n) = n.value ≤ most_number
  SmallFactor (Truthful t) = ⊤
  SmallFactor (Reads name index) = SmallIndex index
  SmallFactor (Group place e) = SmallExpression e
  SmallFactor (Minus place f) = SmallFactor f
  SmallFactor (Not place f) = SmallFactor f

  pub SmallIndex : IndexTree → Type 0
  SmallIndex NoIndex = ⊤
  SmallIndex (At e) = SmallExpression e

abbrev pub SmallArguments : List ExpressionTree → Type 0
SmallArguments [] = ⊤
SmallArguments (e ∷ es) = SmallExpression e × SmallArguments es

abbrev pub SmallValue : Option ExpressionTree → Type 0
SmallValue None = ⊤
SmallValue (Some e) = SmallExpression e

abbrev mutual
  pub SmallStatement : StatementTree → Type 0
  SmallStatement (Assign v e) = SmallIndex v.index × SmallExpression e
  SmallStatement (If place e ss part) = SmallExpression e × SmallStatements ss × SmallPart part
  SmallStatement (While place e ss) = SmallExpression e × SmallStatements ss
  SmallStatement (Call place c into) = SmallArguments c.arguments
  SmallStatement (Fork place c into) = SmallArguments c.arguments
  SmallStatement (Join place e into part) = SmallExpression e × SmallPart part
  SmallStatement (Return place value) = SmallValue value
  SmallStatement (Wait place name) = ⊤
  SmallStatement (Notify place name) = ⊤
  SmallStatement (Broadcast place name) = ⊤
  SmallStatement (Print place e) = SmallExpression e
  SmallStatement (Abort place) = ⊤

  pub SmallStatements : StatementTrees → Type 0
  SmallStatements NoStatements = ⊤
  SmallStatements (Then s ss) = SmallStatement s × SmallStatements ss

  pub SmallPart : PartTree → Type 0
  SmallPart NoPart = ⊤
  SmallPart (Part ss) = SmallStatements ss
