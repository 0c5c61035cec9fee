-- What the trees of declarations in code say, without pointers.
use Rattle.std.specs.Prelude.{List, Option, Some, None, map}
use Rattle.syntax.specs.declared.leaf.Name.{Name}
use Rattle.syntax.specs.declared.declaration.Local.{Local}
use Rattle.syntax.specs.declared.declaration.Parameter.{Parameter}
use Rattle.syntax.specs.declared.declaration.Member.{Member}
use Rattle.syntax.specs.declared.declaration.Body.{Body}
use Rattle.syntax.specs.declared.declaration.Procedure.{Procedure}
use Rattle.syntax.specs.declared.declaration.MonitorProcedure.{MonitorProcedure}
use Rattle.syntax.specs.declared.declaration.Recover.{Recover}
use Rattle.syntax.specs.declared.declaration.Monitor.{Monitor}
use Rattle.syntax.specs.declared.declaration.Main.{Main}
use Rattle.syntax.specs.Tree.{LocalTree, ParameterTree, MemberTree, BodyTree, ProcedureTree, MonitorProcedureTree}
use Rattle.syntax.specs.Tree.{RecoverTree, MonitorTree, UnitTree}
pub use Rattle.syntax.specs.ExpressionView.{name_of, lone_term, lone_sum, lone_relation, lone_conjunction}
pub use Rattle.syntax.specs.ExpressionView.{lone_expression, expression_of, conjunctions_of, conjunction_of}
pub use Rattle.syntax.specs.ExpressionView.{relations_of}
pub use Rattle.syntax.specs.ExpressionView.{relation_of, sum_of, total_of, summands_of, term_of, product_of}
pub use Rattle.syntax.specs.ExpressionView.{multipliers_of, factor_of, variable_of, option_name, option_expression}
pub use Rattle.syntax.specs.StatementView.{first_name, dotted_name, callee_of, statement_of, statements_of, part_of}
pub use Rattle.syntax.specs.VecView.{conjunctions_before, conjunctions_in, relations_before, relations_in}
pub use Rattle.syntax.specs.VecView.{summands_before, summands_in, multipliers_before, multipliers_in}
pub use Rattle.syntax.specs.VecView.{statements_before}
pub use Rattle.syntax.specs.VecView.{statements_in, part_in}

-- a local variable
abbrev pub local_of : Local → LocalTree
local_of l = record { place = l.place; name = name_of l.name; kind = l.kind }

-- a parameter
abbrev pub parameter_of : Parameter → ParameterTree
parameter_of p = record { name = name_of p.name; kind = p.kind }

-- a member
abbrev pub member_of : Member → MemberTree
member_of m = record { place = m.place; name = name_of m.name; kind = m.kind }

-- local variables and statements
abbrev pub body_of : Body → BodyTree
body_of b = record { locals = map local_of b.locals.items; statements = statements_in b.statements.items }

-- a procedure
abbrev pub procedure_of : Procedure → ProcedureTree
procedure_of p = record {
  place = p.place;
  name = name_of p.name;
  open_place = p.open_place;
  parameters =
      map parameter_of p.parameters.items;
  returns = p.returns;
  body = body_of p.body;
}

-- a procedure of a monitor
abbrev pub monitor_procedure_of : MonitorProcedure → MonitorProcedureTree
monitor_procedure_of p = record { access = p.access; procedure = procedure_of p.procedure }

-- a recover part that may be left out
abbrev pub recover_of : Option Recover → Option RecoverTree
recover_of None = None
recover_of (Some r) = Some (record { place = r.place; body = body_of r.body })

-- a monitor
abbrev pub monitor_of : Monitor → MonitorTree
monitor_of m = record {
  place = m.place;
  name = name_of m.name;
  members = map member_of m.members.items;
  procedures =
      map monitor_procedure_of m.procedures.items;
  recover = recover_of m.recover;
}

-- the parts of a unit
abbrev pub whole : Name → List Monitor → List Procedure → Main → UnitTree
whole name monitors procedures main = record {
  name = name_of name;
  monitors = map monitor_of monitors;
  procedures =
      map procedure_of procedures;
  place = main.place;
  body = body_of main.body;
}
