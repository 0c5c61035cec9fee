-- What statements are resolved to.
use Rattle.std.specs.Prelude.{ℕ, List, Option, Some, None, map, unwrap_or}
use Rattle.program.specs.declared.kinds.Member.{Member as MemberOf}
use Rattle.program.specs.Trees as P
use Rattle.syntax.specs.Lexeme.{NameTree}
use Rattle.syntax.specs.Tree.{ExpressionTree, VariableTree, IndexTree, NoIndex, At, CalleeTree, StatementTree}
use Rattle.syntax.specs.Tree.{Assign, If}
use Rattle.syntax.specs.Tree.{While, Call, Fork, Join, Return, Wait, Notify, Broadcast, Print, Abort, StatementTrees}
use Rattle.syntax.specs.Tree.{NoStatements, Then, PartTree, NoPart, Part}
use Rattle.types.specs.Scope.{Scope, Meaning, Nothing, ALocal, AMember, meaning, local_number, callee}
use Rattle.types.specs.Expressions.{expression, array_of}

-- what is assigned to; a name that means nothing is local 0
abbrev pub target_of : Scope → Meaning → IndexTree → P.Target
target_of s Nothing NoIndex = P.ToLocal 0
target_of s (ALocal slot kind) NoIndex = P.ToLocal slot
target_of s (AMember member kind) NoIndex = P.ToMember member
target_of s Nothing (At e) = P.ToElement (array_of Nothing) (expression s e)
target_of s (ALocal slot kind) (At e) = P.ToElement (array_of (ALocal slot kind)) (expression s e)
target_of s (AMember member kind) (At e) = P.ToElement member (expression s e)

-- what is assigned to, as it is resolved
abbrev pub target : Scope → VariableTree → P.Target
target s v = target_of s (meaning s v.name) v.index

-- the local that a name behind INTO means, local 0 where it means none
abbrev pub local : Scope → NameTree → ℕ
local s name = unwrap_or (local_number s name) 0

-- the local behind INTO, where a name stands there
abbrev pub into : Scope → Option NameTree → Option ℕ
into s None = None
into s (Some name) = Some (local s name)

-- the piece that is called, piece 0 where there is none
abbrev pub procedure : Scope → CalleeTree → ℕ
procedure s c = unwrap_or (callee s c) 0

-- an expression that may be left out, as it is resolved
abbrev pub value : Scope → Option ExpressionTree → Option P.Expression
value s None = None
value s (Some e) = Some (expression s e)

-- arguments, as they are resolved
abbrev pub arguments : Scope → List ExpressionTree → List P.Expression
arguments s es = map (expression s) es

-- the condition that a name means
abbrev pub condition : Scope → NameTree → MemberOf
condition s name = array_of (meaning s name)

abbrev mutual
  pub statement : Scope → StatementTree → P.Statement
  statement s (Assign v e) = P.Assign (target s v) (expression s e)
  statement s (If place e ss rest) = P.If (expression s e) (block s ss) (part s rest)
  statement s (While place e ss) = P.While (expression s e) (block s ss)
  statement s (Call place c name) = P.Call (procedure s c) (arguments s c.arguments) (into s name)
  statement s (Fork place c name) = P.Fork (procedure s c) (arguments s c.arguments) (local s name)
  statement s (Join place e name rest) = P.Join (expression s e) (into s name) (part s rest)
  statement s (Return place e) = P.Return (value s e)
  statement s (Wait place name) = P.Wait (condition s name)
  statement s (Notify place name) = P.Notify (condition s name)
  statement s (Broadcast place name) = P.Broadcast (condition s name)
  statement s (Print place e) = P.Print (expression s e)
  statement s (Abort place) = P.Abort

  pub block : Scope → StatementTrees → P.Block
  block s NoStatements = P.Done
  block s (Then first rest) = P.Then (statement s first) (block s rest)

  pub part : Scope → PartTree → P.Part
  part s NoPart = P.NoPart
  part s (Part ss) = P.SomePart (block s ss)
