-- What the trees of the code say, without pointers.
use Rattle.std.specs.Prelude.{List, [], ◌∷◌, Option, Some, None, map, Vec}
use Rattle.std.specs.Global.{Global}
use Rattle.words.specs.declared.version.ImageVersion.TheVariants.{Two}
use Rattle.program.specs.declared.expression.Expression.{Expression as ExpressionOf}
use Rattle.program.specs.declared.expression.Expression.TheBlock.{Number as Number', Truth as Truth', Local as Local'}
use Rattle.program.specs.declared.expression.Expression.TheBlock.{Member as Member', Element', Unary', Both'}
use Rattle.program.specs.declared.statement.Target.{Target as TargetOf}
use Rattle.program.specs.declared.statement.Target.TheVariants.{Local as LocalTarget, Member as MemberTarget}
use Rattle.program.specs.declared.statement.Target.TheVariants.{Element as ElementTarget}
use Rattle.program.specs.declared.statement.Statement.{Statement as StatementOf}
use Rattle.program.specs.declared.statement.Statement.TheBlock.{Assign as Assign', If', While', Call as Call'}
use Rattle.program.specs.declared.statement.Statement.TheBlock.{Fork as Fork', Join', Return as Return'}
use Rattle.program.specs.declared.statement.Statement.TheBlock.{Wait as Wait', Notify as Notify'}
use Rattle.program.specs.declared.statement.Statement.TheBlock.{Broadcast as Broadcast', Print as Print'}
use Rattle.program.specs.declared.statement.Statement.TheBlock.{Abort as Abort', Row_of-Statement, end_of-Statement}
use Rattle.program.specs.declared.statement.Statement.TheBlock.{more_of-Statement, Held-Statement-If-2, None', Some'}
use Rattle.program.specs.declared.unit.Monitor.{Monitor as MonitorOf}
use Rattle.program.specs.declared.unit.Procedure.{Procedure as ProcedureOf}
use Rattle.program.specs.declared.unit.Program.{Program as ProgramOf}
use Rattle.program.specs.Trees.{Expression, Constant, Truth, Local, Member, Element, Unary, Both, Target, ToLocal}
use Rattle.program.specs.Trees.{ToMember, ToElement, Statement, Assign, If, While, Call, Fork, Join, Return, Wait}
use Rattle.program.specs.Trees.{Notify, Broadcast, Print, Abort, Block, Done, Then, Part, NoPart, SomePart, Monitor}
use Rattle.program.specs.Trees.{Procedure, Program}

-- an expression
abbrev pub expression_of : ExpressionOf → Expression
expression_of (Number' n) = Constant n
expression_of (Truth' b) = Truth b
expression_of (Local' i) = Local i
expression_of (Member' m) = Member m
expression_of (Element' p array e) = Element array (expression_of e)
expression_of (Unary' op p e) = Unary op (expression_of e)
expression_of (Both' p op l r) = Both op (expression_of l) (expression_of r)

-- what is assigned to
abbrev pub target_of : TargetOf → Target
target_of (LocalTarget i) = ToLocal i
target_of (MemberTarget m) = ToMember m
target_of (ElementTarget e) = ToElement e.value.array (expression_of e.value.index)

-- an expression that may be left out
abbrev pub option_expression : Option ExpressionOf → Option Expression
option_expression None = None
option_expression (Some e) = Some (expression_of e)

abbrev mutual
  pub statement_of : StatementOf → Statement
  statement_of (Assign' t e) = Assign (target_of t) (expression_of e)
  statement_of (If' e n ss part) = If (expression_of e) (block_of ss) (part_of part)
  statement_of (While' e n ss) = While (expression_of e) (block_of ss)
  statement_of (Call' q es into) = Call q (map expression_of es.items) into
  statement_of (Fork' q es into) = Fork q (map expression_of es.items) into
  statement_of (Join' e into part) = Join (expression_of e) into (part_of part)
  statement_of (Return' value) = Return (option_expression value)
  statement_of (Wait' c) = Wait c
  statement_of (Notify' c) = Notify c
  statement_of (Broadcast' c) = Broadcast c
  statement_of (Print' e) = Print (expression_of e)
  statement_of Abort' = Abort

  pub block_of : {n : _} → Row_of-Statement n → Block
  block_of end_of-Statement = Done
  block_of (more_of-Statement s row) = Then (statement_of s) (block_of row)

  pub part_of : Held-Statement-If-2 → Part
  part_of None' = NoPart
  part_of (Some' n row) = SomePart (block_of row)

-- the same of the elements of a `Vec`, before others
abbrev pub block_before : List StatementOf → Block → Block
block_before [] later = later
block_before (s ∷ ss) later = Then (statement_of s) (block_before ss later)

-- a list of statements
abbrev pub block_in : List StatementOf → Block
block_in ss = block_before ss Done

-- a part that may be left out
abbrev pub part_in : Option (Vec StatementOf Global) → Part
part_in None = NoPart
part_in (Some v) = SomePart (block_in v.items)

-- a monitor
abbrev pub monitor_of : MonitorOf → Monitor
monitor_of m = record { members = m.members.items; recover = m.recover }

-- a procedure
abbrev pub procedure_of : ProcedureOf → Procedure
procedure_of q = record {
  role = q.role;
  parameters = q.parameters.items;
  locals = q.locals.items;
  result = q.result;
  body = block_in q.body.items;
}

-- a program, whose image has the second version
abbrev pub program_of : ProgramOf → Program
program_of p = record {
  version = Two;
  monitors = map monitor_of p.monitors.items;
  procedures = map procedure_of p.procedures.items;
}
