-- What the trees of statements in code say, without pointers.
use Rattle.std.specs.Prelude.{Option, Some, None, map}
use Rattle.syntax.specs.declared.leaf.Name.{Name}
use Rattle.syntax.specs.declared.statement.Callee.{Callee}
use Rattle.syntax.specs.declared.statement.Statement.{Statement}
use Rattle.syntax.specs.declared.statement.Statement.TheBlock.{Assign as Assign', If', While', Call as Call'}
use Rattle.syntax.specs.declared.statement.Statement.TheBlock.{Fork as Fork', Join', Return as Return', Wait as Wait'}
use Rattle.syntax.specs.declared.statement.Statement.TheBlock.{Notify as Notify', Broadcast as Broadcast'}
use Rattle.syntax.specs.declared.statement.Statement.TheBlock.{Print as Print', Abort as Abort', Row_of-Statement}
use Rattle.syntax.specs.declared.statement.Statement.TheBlock.{end_of-Statement, more_of-Statement}
use Rattle.syntax.specs.declared.statement.Statement.TheBlock.{Held-Statement-If-3, None', Some'}
use Rattle.syntax.specs.Lexeme.{NameTree}
use Rattle.syntax.specs.Tree.{CalleeTree, StatementTree, Assign, If, While, Call, Fork, Join, Return, Wait, Notify}
use Rattle.syntax.specs.Tree.{Broadcast, Print, Abort, StatementTrees, NoStatements, Then, PartTree, NoPart, Part}
use Rattle.syntax.specs.ExpressionView.{name_of, expression_of, variable_of, option_name, option_expression}

-- the first name of a callee, and the name after a dot: of a monitor and a procedure, or of a procedure alone
abbrev pub first_name : Option Name → Name → NameTree
first_name None procedure = name_of procedure
first_name (Some monitor) procedure = name_of monitor

-- the name behind the dot, where there is one
abbrev pub dotted_name : Option Name → Name → Option NameTree
dotted_name None procedure = None
dotted_name (Some monitor) procedure = Some (name_of procedure)

-- what is called
abbrev pub callee_of : Callee → CalleeTree
callee_of c = record {
  name = first_name c.monitor c.procedure;
  dotted =
      dotted_name c.monitor c.procedure;
  open_place = c.open_place;
  arguments = map expression_of c.arguments.items;
}

-- the tree of a statement, and of all that it is made of
abbrev mutual
  pub statement_of : Statement → StatementTree
  statement_of (Assign' v e) = Assign (variable_of v) (expression_of e)
  statement_of (If' place e n ss part) = If place (expression_of e) (statements_of ss) (part_of part)
  statement_of (While' place e n ss) = While place (expression_of e) (statements_of ss)
  statement_of (Call' place c into) = Call place (callee_of c) (option_name into)
  statement_of (Fork' place c into) = Fork place (callee_of c) (name_of into)
  statement_of (Join' place e into part) = Join place (expression_of e) (option_name into) (part_of part)
  statement_of (Return' place value) = Return place (option_expression value)
  statement_of (Wait' place name) = Wait place (name_of name)
  statement_of (Notify' place name) = Notify place (name_of name)
  statement_of (Broadcast' place name) = Broadcast place (name_of name)
  statement_of (Print' place e) = Print place (expression_of e)
  statement_of (Abort' place) = Abort place

  pub statements_of : {n : _} → Row_of-Statement n → StatementTrees
  statements_of end_of-Statement = NoStatements
  statements_of (more_of-Statement s row) = Then (statement_of s) (statements_of row)

  pub part_of : Held-Statement-If-3 → PartTree
  part_of None' = NoPart
  part_of (Some' n row) = Part (statements_of row)
