-- How many nestings are open at once in a tree: of IF, WHILE, ABORTED, `(` and `[` in expressions and targets, and `-`
-- and NOT before a factor.
use Rattle.std.specs.Prelude.{ℕ, ◌+◌, max, List, [], ◌∷◌, Option, Some, None}
use Rattle.syntax.specs.Tree.{ExpressionTree, AnyOf, ConjunctionTrees, NoConjunctions, OrElse, ConjunctionTree, AllOf}
use Rattle.syntax.specs.Tree.{RelationTrees, NoRelations, AndAlso, RelationTree, Relates, ComparisonTree, NoComparison}
use Rattle.syntax.specs.Tree.{Compares, SumTree, Total, SummandTrees, NoSummands, Adds, TermTree, Product}
use Rattle.syntax.specs.Tree.{MultiplierTrees, NoMultipliers, Scales, FactorTree, Constant, Truthful, Reads, Group}
use Rattle.syntax.specs.Tree.{Minus, Not, IndexTree, NoIndex, At, StatementTree, Assign, If, While, Call, Fork, Join}
use Rattle.syntax.specs.Tree.{Return, Wait, Notify, Broadcast, Print, Abort, StatementTrees, NoStatements, Then}
use Rattle.syntax.specs.Tree.{PartTree, NoPart, Part, ProcedureTree, MonitorProcedureTree, RecoverTree, MonitorTree}
use Rattle.syntax.specs.Tree.{UnitTree}

-- in an expression, and in all that it is made of
abbrev mutual
  pub expression_nesting : ExpressionTree → ℕ
  expression_nesting (AnyOf c cs) = max (conjunction_nesting c) (conjunctions_nesting cs)

  pub conjunctions_nesting : ConjunctionTrees → ℕ
  conjunctions_nesting NoConjunctions = 0
  conjunctions_nesting (OrElse c cs) = max (conjunction_nesting c) (conjunctions_nesting cs)

  pub conjunction_nesting : ConjunctionTree → ℕ
  conjunction_nesting (AllOf r rs) = max (relation_nesting r) (relations_nesting rs)

  pub relations_nesting : RelationTrees → ℕ
  relations_nesting NoRelations = 0
  relations_nesting (AndAlso r rs) = max (relation_nesting r) (relations_nesting rs)

  pub relation_nesting : RelationTree → ℕ
  relation_nesting (Relates s c) = max (sum_nesting s) (comparison_nesting c)

  pub comparison_nesting : ComparisonTree → ℕ
  comparison_nesting NoComparison = 0
  comparison_nesting (Compares op s) = sum_nesting s

  pub sum_nesting : SumTree → ℕ
  sum_nesting (Total t ts) = max (term_nesting t) (summands_nesting ts)

  pub summands_nesting : SummandTrees → ℕ
  summands_nesting NoSummands = 0
  summands_nesting (Adds op place t ts) = max (term_nesting t) (summands_nesting ts)

  pub term_nesting : TermTree → ℕ
  term_nesting (Product f fs) = max (factor_nesting f) (multipliers_nesting fs)

  pub multipliers_nesting : MultiplierTrees → ℕ
  multipliers_nesting NoMultipliers = 0
  multipliers_nesting (Scales op f fs) = max (factor_nesting f) (multipliers_nesting fs)

  pub factor_nesting : FactorTree → ℕ
  factor_nesting (Constant n) = 0
  factor_nesting (Truthful t) = 0
  factor_nesting (Reads name index) = index_nesting index
  factor_nesting (Group place e) = expression_nesting e + 1
  factor_nesting (Minus place f) = factor_nesting f + 1
  factor_nesting (Not place f) = factor_nesting f + 1

  pub index_nesting : IndexTree → ℕ
  index_nesting NoIndex = 0
  index_nesting (At e) = expression_nesting e + 1

-- in arguments
abbrev pub arguments_nesting : List ExpressionTree → ℕ
arguments_nesting [] = 0
arguments_nesting (e ∷ es) = max (expression_nesting e) (arguments_nesting es)

-- in an expression that may be left out
abbrev pub value_nesting : Option ExpressionTree → ℕ
value_nesting None = 0
value_nesting (Some e) = expression_nesting e

-- in a statement, and in the parts that hold others
abbrev mutual
  pub statement_nesting : StatementTree → ℕ
  statement_nesting (Assign v e) = max (index_nesting v.index) (expression_nesting e)
  statement_nesting (If place e ss part) = max (expression_nesting e) (max (statements_nesting ss) (else_nesting part))
      + 1
  statement_nesting (While place e ss) = max (expression_nesting e) (statements_nesting ss) + 1
  statement_nesting (Call place c into) = arguments_nesting c.arguments
  statement_nesting (Fork place c into) = arguments_nesting c.arguments
  statement_nesting (Join place e into part) = max (expression_nesting e) (aborted_nesting part)
  statement_nesting (Return place value) = value_nesting value
  statement_nesting (Wait place name) = 0
  statement_nesting (Notify place name) = 0
  statement_nesting (Broadcast place name) = 0
  statement_nesting (Print place e) = expression_nesting e
  statement_nesting (Abort place) = 0

  pub statements_nesting : StatementTrees → ℕ
  statements_nesting NoStatements = 0
  statements_nesting (Then s ss) = max (statement_nesting s) (statements_nesting ss)

  -- an ELSE is within its IF
  pub else_nesting : PartTree → ℕ
  else_nesting NoPart = 0
  else_nesting (Part ss) = statements_nesting ss

  pub aborted_nesting : PartTree → ℕ
  aborted_nesting NoPart = 0
  aborted_nesting (Part ss) = statements_nesting ss + 1

-- in procedures
abbrev pub procedures_nesting : List ProcedureTree → ℕ
procedures_nesting [] = 0
procedures_nesting (p ∷ ps) = max (statements_nesting p.body.statements) (procedures_nesting ps)

-- in a monitor's procedures
abbrev pub monitor_procedures_nesting : List MonitorProcedureTree → ℕ
monitor_procedures_nesting [] = 0
monitor_procedures_nesting (p ∷ ps) = max (statements_nesting p.procedure.body.statements)
    (monitor_procedures_nesting ps)

-- in a recover part that may be left out
abbrev pub recover_nesting : Option RecoverTree → ℕ
recover_nesting None = 0
recover_nesting (Some r) = statements_nesting r.body.statements

-- in monitors
abbrev pub monitors_nesting : List MonitorTree → ℕ
monitors_nesting [] = 0
monitors_nesting (m ∷ ms) = max (max (monitor_procedures_nesting m.procedures) (recover_nesting m.recover))
    (monitors_nesting ms)

-- in a unit
abbrev pub unit_nesting : UnitTree → ℕ
unit_nesting u = max (monitors_nesting u.monitors)
    (max (procedures_nesting u.procedures) (statements_nesting u.body.statements))
