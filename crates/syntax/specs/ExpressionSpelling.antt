-- The grammar of expressions: what each tree is spelled as, before what follows it.
use Rattle.std.specs.Prelude.{List, [], ◌∷◌, Option, Some, None, Bool, true, false}
use Rattle.scanner.specs.declared.token.Keyword.TheVariants as K
use Rattle.scanner.specs.declared.token.Sign.TheVariants as S
use Rattle.scanner.specs.declared.token.Place.{Place}
use Rattle.syntax.specs.declared.leaf.Truth.{Truth}
use Rattle.syntax.specs.declared.expression.Comparator.{Comparator}
use Rattle.syntax.specs.declared.expression.Comparator.TheVariants as C
use Rattle.syntax.specs.declared.expression.SumOperator.{SumOperator}
use Rattle.syntax.specs.declared.expression.SumOperator.TheVariants.{Plus as PlusSign, Minus as MinusSign}
use Rattle.syntax.specs.declared.expression.ProductOperator.{ProductOperator}
use Rattle.syntax.specs.declared.expression.ProductOperator.TheVariants as P
use Rattle.syntax.specs.declared.declaration.MemberType.TheVariants as M
use Rattle.syntax.specs.Lexeme.{NameTree, Lexeme, Word, WordAt, Mark, MarkAt, Named, Numbered}
use Rattle.syntax.specs.Tree.{ExpressionTree, AnyOf, ConjunctionTrees, NoConjunctions, OrElse, ConjunctionTree, AllOf}
use Rattle.syntax.specs.Tree.{RelationTrees, NoRelations, AndAlso, RelationTree, Relates, ComparisonTree}
use Rattle.syntax.specs.Tree.{NoComparison, Compares, SumTree, Total, SummandTrees, NoSummands, Adds, TermTree}
use Rattle.syntax.specs.Tree.{Product, MultiplierTrees, NoMultipliers, Scales, FactorTree, Constant, Truthful, Reads}
use Rattle.syntax.specs.Tree.{Group, Minus, Not, IndexTree, NoIndex, At, CalleeTree}

-- TRUE or FALSE
abbrev pub bool_lexeme : Bool → Place → Lexeme
bool_lexeme true place = WordAt K.True place
bool_lexeme false place = WordAt K.False place

-- the sign of a comparison
abbrev pub comparator_text : Comparator → Lexeme
comparator_text C.Equal = Mark S.Equal
comparator_text C.NotEqual = Mark S.NotEqual
comparator_text C.Less = Mark S.Less
comparator_text C.LessEqual = Mark S.LessEqual
comparator_text C.Greater = Mark S.Greater
comparator_text C.GreaterEqual = Mark S.GreaterEqual

-- the sign between two terms
abbrev pub sum_sign : SumOperator → Place → Lexeme
sum_sign PlusSign place = MarkAt S.Plus place
sum_sign MinusSign place = MarkAt S.Minus place

-- what stands between two factors
abbrev pub product_sign : ProductOperator → Lexeme
product_sign P.Times = Mark S.Times
product_sign P.Divide = Mark S.Divide
product_sign P.Mod = Word K.Mod

-- a truth value
abbrev pub truth_text : Truth → Lexeme
truth_text t = bool_lexeme t.value t.place

-- expressions, from the loosest level to the tightest
abbrev mutual
  pub expression_text : ExpressionTree → List Lexeme → List Lexeme
  expression_text (AnyOf c cs) ks = conjunction_text c (conjunctions_text cs ks)

  pub conjunctions_text : ConjunctionTrees → List Lexeme → List Lexeme
  conjunctions_text NoConjunctions ks = ks
  conjunctions_text (OrElse c cs) ks = Word K.Or ∷ conjunction_text c (conjunctions_text cs ks)

  pub conjunction_text : ConjunctionTree → List Lexeme → List Lexeme
  conjunction_text (AllOf r rs) ks = relation_text r (relations_text rs ks)

  pub relations_text : RelationTrees → List Lexeme → List Lexeme
  relations_text NoRelations ks = ks
  relations_text (AndAlso r rs) ks = Word K.And ∷ relation_text r (relations_text rs ks)

  pub relation_text : RelationTree → List Lexeme → List Lexeme
  relation_text (Relates s c) ks = sum_text s (comparison_text c ks)

  pub comparison_text : ComparisonTree → List Lexeme → List Lexeme
  comparison_text NoComparison ks = ks
  comparison_text (Compares op s) ks = comparator_text op ∷ sum_text s ks

  pub sum_text : SumTree → List Lexeme → List Lexeme
  sum_text (Total t ts) ks = term_text t (summands_text ts ks)

  pub summands_text : SummandTrees → List Lexeme → List Lexeme
  summands_text NoSummands ks = ks
  summands_text (Adds op place t ts) ks = sum_sign op place ∷ term_text t (summands_text ts ks)

  pub term_text : TermTree → List Lexeme → List Lexeme
  term_text (Product f fs) ks = factor_text f (multipliers_text fs ks)

  pub multipliers_text : MultiplierTrees → List Lexeme → List Lexeme
  multipliers_text NoMultipliers ks = ks
  multipliers_text (Scales op f fs) ks = product_sign op ∷ factor_text f (multipliers_text fs ks)

  pub factor_text : FactorTree → List Lexeme → List Lexeme
  factor_text (Constant n) ks = Numbered n ∷ ks
  factor_text (Truthful t) ks = truth_text t ∷ ks
  factor_text (Reads name index) ks = Named name ∷ index_text index ks
  factor_text (Group place e) ks = MarkAt S.OpenParen place ∷ expression_text e (Mark S.CloseParen ∷ ks)
  factor_text (Minus place f) ks = MarkAt S.Minus place ∷ factor_text f ks
  factor_text (Not place f) ks = WordAt K.Not place ∷ factor_text f ks

  pub index_text : IndexTree → List Lexeme → List Lexeme
  index_text NoIndex ks = ks
  index_text (At e) ks = Mark S.OpenBracket ∷ expression_text e (Mark S.CloseBracket ∷ ks)

-- further arguments, and then the arguments of a call
abbrev pub more_arguments_text : List ExpressionTree → List Lexeme → List Lexeme
more_arguments_text [] ks = ks
more_arguments_text (e ∷ es) ks = Mark S.Comma ∷ expression_text e (more_arguments_text es ks)

-- arguments, with commas between them
abbrev pub arguments_text : List ExpressionTree → List Lexeme → List Lexeme
arguments_text [] ks = ks
arguments_text (e ∷ es) ks = expression_text e (more_arguments_text es ks)

-- a dot and a name, where there is one
abbrev pub dotted_text : Option NameTree → List Lexeme → List Lexeme
dotted_text None ks = ks
dotted_text (Some name) ks = Mark S.Dot ∷ Named name ∷ ks

-- `p(..)`, or `M.p(..)`
abbrev pub callee_text : CalleeTree → List Lexeme → List Lexeme
callee_text c ks = Named c.name ∷ dotted_text c.dotted
    (MarkAt S.OpenParen c.open_place ∷ arguments_text c.arguments (Mark S.CloseParen ∷ ks))

-- INTO and a name, where there is one
abbrev pub into_text : Option NameTree → List Lexeme → List Lexeme
into_text None ks = ks
into_text (Some name) ks = Word K.Into ∷ Named name ∷ ks

-- an expression, where there is one
abbrev pub value_text : Option ExpressionTree → List Lexeme → List Lexeme
value_text None ks = ks
value_text (Some e) ks = expression_text e ks
