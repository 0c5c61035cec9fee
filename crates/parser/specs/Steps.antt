-- What the parts of the parser that read one more element lead to.
use Rattle.scanner.specs.declared.token.Keyword.{Keyword}
use Rattle.std.specs.Prelude.{ℕ, List, [], ◌∷◌, Option, Some, None}
use Rattle.syntax.specs.declared.declaration.Local.{Local}
use Rattle.syntax.specs.declared.declaration.Member.{Member}
use Rattle.syntax.specs.declared.declaration.Parameter.{Parameter}
use Rattle.syntax.specs.declared.statement.Statement.{Statement}
use Rattle.syntax.specs.declared.declaration.Procedure.{Procedure}
use Rattle.syntax.specs.declared.declaration.MonitorProcedure.{MonitorProcedure}
use Rattle.syntax.specs.declared.declaration.Monitor.{Monitor}
use Rattle.syntax.specs.Tree.{ExpressionTree, LocalTree, MemberTree, ParameterTree, StatementTrees, Then, BodyTree}
use Rattle.syntax.specs.Tree.{ProcedureTree, MonitorProcedureTree, MonitorTree}
use Rattle.syntax.specs.View.{local_of, member_of, parameter_of, statement_of, procedure_of, monitor_procedure_of}
use Rattle.syntax.specs.View.{monitor_of}
use Rattle.grammar.specs.Machine.{Symbol, Tree, Trees, Item, AWord, Statements, body, expression, procedure}
use Rattle.grammar.specs.Reading.{Passes, Leads}
use Rattle.expression_parser.specs.Levels.{expression_trees}

-- one more element was read, or none begins and the symbol is over
abbrev pub ReadsNext : {X : Type 0} → ℕ → (s : Symbol) → (X → Tree s → Tree s) → Tree s → Option X → List Item
    → List Item → Type 0
ReadsNext depth s add empty (Some x) before after = Leads depth (s ∷ []) (s ∷ []) (λ y. (add x y.0, tt)) before after
ReadsNext depth s add empty None before after = Passes depth (s ∷ []) (empty, tt) before after

-- a local variable before others
abbrev pub add_local : Local → List LocalTree → List LocalTree
add_local l later = local_of l ∷ later

-- a member before others
abbrev pub add_member : Member → List MemberTree → List MemberTree
add_member m later = member_of m ∷ later

-- a parameter before others
abbrev pub add_parameter : Parameter → List ParameterTree → List ParameterTree
add_parameter p later = parameter_of p ∷ later

-- a statement before others
abbrev pub add_statement : Statement → StatementTrees → StatementTrees
add_statement s later = Then (statement_of s) later

-- a statement was read
abbrev pub ReadsStatement : ℕ → Statement → List Item → List Item → Type 0
ReadsStatement depth s before after = Leads depth (Statements ∷ []) (Statements ∷ []) (λ y. (add_statement s y.0, tt))
    before after

-- a procedure before others
abbrev pub add_procedure : Procedure → List ProcedureTree → List ProcedureTree
add_procedure p later = procedure_of p ∷ later

-- a monitor's procedure before others
abbrev pub add_monitor_procedure : MonitorProcedure → List MonitorProcedureTree → List MonitorProcedureTree
add_monitor_procedure p later = monitor_procedure_of p ∷ later

-- a monitor before others
abbrev pub add_monitor : Monitor → List MonitorTree → List MonitorTree
add_monitor m later = monitor_of m ∷ later

-- the trees of the symbols that a body, and a procedure behind its first word, are expected as
abbrev pub body_trees : BodyTree → Trees (body [])
body_trees b = (b.locals, (b.statements, (tt, tt)))

-- the same of a procedure behind its first word
abbrev pub procedure_trees : ProcedureTree → Trees (procedure [])
procedure_trees p = (
  p.name,
  (p.open_place, (p.parameters, (tt, (p.returns, (tt, (p.body.locals, (p.body.statements, (tt, (tt, tt))))))))),
)

-- the trees of the symbols that an expression and a keyword behind it are expected as
abbrev pub condition_trees : (w : Keyword) → ExpressionTree → Trees (expression (AWord w ∷ []))
condition_trees w e =
    let x = expression_trees e in
    (x.0, (x.1.0, (x.1.1.0, (x.1.1.1.0, (x.1.1.1.1.0, (x.1.1.1.1.1.0, (tt, tt)))))))
