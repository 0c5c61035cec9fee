-- The trees of the grammar, without pointers.
use Rattle.std.specs.Prelude.{List, Option}
use Rattle.scanner.specs.declared.token.Place.{Place}
use Rattle.syntax.specs.declared.declaration.LocalType.{LocalType}
use Rattle.syntax.specs.declared.declaration.MemberType.{MemberType}
use Rattle.syntax.specs.declared.declaration.ResultType.{ResultType}
use Rattle.syntax.specs.declared.declaration.Access.{Access}
use Rattle.syntax.specs.Lexeme.{NameTree}
pub use Rattle.syntax.specs.ExpressionTrees.{ExpressionTree, AnyOf, ConjunctionTrees, NoConjunctions, OrElse}
pub use Rattle.syntax.specs.ExpressionTrees.{ConjunctionTree, AllOf, RelationTrees, NoRelations, AndAlso}
pub use Rattle.syntax.specs.ExpressionTrees.{RelationTree, Relates, ComparisonTree, NoComparison, Compares, SumTree}
pub use Rattle.syntax.specs.ExpressionTrees.{Total, SummandTrees, NoSummands, Adds, TermTree, Product}
pub use Rattle.syntax.specs.ExpressionTrees.{MultiplierTrees, NoMultipliers, Scales, FactorTree, Constant, Truthful}
pub use Rattle.syntax.specs.ExpressionTrees.{Reads, Group, Minus, Not, IndexTree, NoIndex, At}

-- what is assigned to
pub record VariableTree : Type 0 where
  pub name : NameTree
  pub index : IndexTree

-- a callee: its first name, and the name after a dot
pub record CalleeTree : Type 0 where
  pub name : NameTree
  pub dotted : Option NameTree
  pub open_place : Place
  pub arguments : List ExpressionTree

-- a statement, and the parts that hold others
mutual
  -- a statement, with the place of the keyword that begins it
  pub data StatementTree : Type 0 where
    Assign : VariableTree → ExpressionTree → StatementTree
    If : Place → ExpressionTree → StatementTrees → PartTree → StatementTree
    While : Place → ExpressionTree → StatementTrees → StatementTree
    Call : Place → CalleeTree → Option NameTree → StatementTree
    Fork : Place → CalleeTree → NameTree → StatementTree
    Join : Place → ExpressionTree → Option NameTree → PartTree → StatementTree
    Return : Place → Option ExpressionTree → StatementTree
    Wait : Place → NameTree → StatementTree
    Notify : Place → NameTree → StatementTree
    Broadcast : Place → NameTree → StatementTree
    Print : Place → ExpressionTree → StatementTree
    Abort : Place → StatementTree

  -- statements, one after another
  pub data StatementTrees : Type 0 where
    NoStatements : StatementTrees
    Then : StatementTree → StatementTrees → StatementTrees

  -- the statements of an ELSE or an ABORTED, if there is one
  pub data PartTree : Type 0 where
    NoPart : PartTree
    Part : StatementTrees → PartTree

-- a local variable
pub record LocalTree : Type 0 where
  pub place : Place
  pub name : NameTree
  pub kind : LocalType

-- a parameter
pub record ParameterTree : Type 0 where
  pub name : NameTree
  pub kind : LocalType

-- a member of a monitor
pub record MemberTree : Type 0 where
  pub place : Place
  pub name : NameTree
  pub kind : MemberType

-- local variables and statements
pub record BodyTree : Type 0 where
  pub locals : List LocalTree
  pub statements : StatementTrees

-- a procedure
pub record ProcedureTree : Type 0 where
  pub place : Place
  pub name : NameTree
  pub open_place : Place
  pub parameters : List ParameterTree
  pub returns : Option ResultType
  pub body : BodyTree

-- a procedure of a monitor
pub record MonitorProcedureTree : Type 0 where
  pub access : Access
  pub procedure : ProcedureTree

-- a recover part
pub record RecoverTree : Type 0 where
  pub place : Place
  pub body : BodyTree

-- a monitor
pub record MonitorTree : Type 0 where
  pub place : Place
  pub name : NameTree
  pub members : List MemberTree
  pub procedures : List MonitorProcedureTree
  pub recover : Option RecoverTree

-- a whole program
pub record UnitTree : Type 0 where
  pub name : NameTree
  pub monitors : List MonitorTree
  pub procedures : List ProcedureTree
  pub place : Place
  pub body : BodyTree
