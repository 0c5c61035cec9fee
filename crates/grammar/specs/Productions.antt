-- What each part of a unit is spelled as, with nothing behind it.
use Rattle.std.specs.Prelude.{List, [], ◌∷◌, Option}
use Rattle.syntax.specs.declared.declaration.MemberType.{MemberType}
use Rattle.syntax.specs.declared.declaration.ResultType.{ResultType}
use Rattle.syntax.specs.Lexeme.{NameTree, Lexeme}
use Rattle.syntax.specs.Tree.{ExpressionTree, ConjunctionTrees, ConjunctionTree, RelationTrees, RelationTree}
use Rattle.syntax.specs.Tree.{ComparisonTree, SumTree, SummandTrees, TermTree, MultiplierTrees, FactorTree, IndexTree}
use Rattle.syntax.specs.Tree.{CalleeTree, StatementTree, StatementTrees, PartTree, LocalTree, ParameterTree}
use Rattle.syntax.specs.Tree.{MemberTree, BodyTree, ProcedureTree, MonitorProcedureTree, RecoverTree, MonitorTree}
use Rattle.syntax.specs.Spelling.{expression_text, conjunctions_text, conjunction_text, relations_text, relation_text}
use Rattle.syntax.specs.Spelling.{comparison_text, sum_text, summands_text, term_text, multipliers_text, factor_text}
use Rattle.syntax.specs.Spelling.{index_text, arguments_text, dotted_text, callee_text, into_text, statement_text}
use Rattle.syntax.specs.Spelling.{statements_text, else_text, aborted_text, member_type_text, locals_text}
use Rattle.syntax.specs.Spelling.{members_text, parameters_text, returns_text, body_text, procedure_text}
use Rattle.syntax.specs.Spelling.{monitor_procedures_text, recover_text, monitors_text}

-- an expression
abbrev pub expression : ExpressionTree → List Lexeme
expression e = expression_text e []

-- further conjunctions, each behind an OR
abbrev pub more_conjunctions : ConjunctionTrees → List Lexeme
more_conjunctions cs = conjunctions_text cs []

-- a conjunction
abbrev pub conjunction : ConjunctionTree → List Lexeme
conjunction c = conjunction_text c []

-- further relations, each behind an AND
abbrev pub more_relations : RelationTrees → List Lexeme
more_relations rs = relations_text rs []

-- a relation
abbrev pub relation : RelationTree → List Lexeme
relation r = relation_text r []

-- the sign of a comparison and its right side, if there is one
abbrev pub comparison : ComparisonTree → List Lexeme
comparison c = comparison_text c []

-- a sum
abbrev pub sum_of_terms : SumTree → List Lexeme
sum_of_terms s = sum_text s []

-- further terms, each behind its sign
abbrev pub more_terms : SummandTrees → List Lexeme
more_terms ts = summands_text ts []

-- a term
abbrev pub term : TermTree → List Lexeme
term t = term_text t []

-- further factors, each behind its operator
abbrev pub more_factors : MultiplierTrees → List Lexeme
more_factors fs = multipliers_text fs []

-- a factor
abbrev pub factor : FactorTree → List Lexeme
factor f = factor_text f []

-- an index in brackets, if there is one
abbrev pub index : IndexTree → List Lexeme
index i = index_text i []

-- arguments
abbrev pub arguments : List ExpressionTree → List Lexeme
arguments es = arguments_text es []

-- a dot and a name, if there is one
abbrev pub dot_and_name : Option NameTree → List Lexeme
dot_and_name name = dotted_text name []

-- what is called
abbrev pub callee : CalleeTree → List Lexeme
callee c = callee_text c []

-- INTO and a name, if there is one
abbrev pub into : Option NameTree → List Lexeme
into name = into_text name []

-- a statement
abbrev pub statement : StatementTree → List Lexeme
statement s = statement_text s []

-- statements
abbrev pub statements : StatementTrees → List Lexeme
statements ss = statements_text ss []

-- ELSE and its statements, if there is one
abbrev pub else_part : PartTree → List Lexeme
else_part part = else_text part []

-- ABORTED, its statements and END, if there is one
abbrev pub aborted_part : PartTree → List Lexeme
aborted_part part = aborted_text part []

-- the type of a member
abbrev pub member_type : MemberType → List Lexeme
member_type t = member_type_text t []

-- a local variable
abbrev pub local : LocalTree → List Lexeme
local l = locals_text (l ∷ []) []

-- a member
abbrev pub member : MemberTree → List Lexeme
member m = members_text (m ∷ []) []

-- a parameter
abbrev pub parameter : ParameterTree → List Lexeme
parameter p = parameters_text (p ∷ []) []

-- parameters
abbrev pub parameters : List ParameterTree → List Lexeme
parameters ps = parameters_text ps []

-- a colon and the type of a result, if there is one
abbrev pub result_part : Option ResultType → List Lexeme
result_part t = returns_text t []

-- local variables, statements and END
abbrev pub body : BodyTree → List Lexeme
body b = body_text b []

-- a procedure
abbrev pub procedure : ProcedureTree → List Lexeme
procedure p = procedure_text p []

-- a procedure of a monitor
abbrev pub access_procedure : MonitorProcedureTree → List Lexeme
access_procedure p = monitor_procedures_text (p ∷ []) []

-- a recover part, if there is one
abbrev pub recover : Option RecoverTree → List Lexeme
recover r = recover_text r []

-- a monitor
abbrev pub monitor : MonitorTree → List Lexeme
monitor m = monitors_text (m ∷ []) []
