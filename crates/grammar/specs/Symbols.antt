-- What can be expected, and what it is replaced by at a lexeme.
use Rattle.std.specs.Prelude.{List, [], ◌∷◌, Option}
use Rattle.scanner.specs.declared.token.Keyword.{Keyword}
use Rattle.scanner.specs.declared.token.Sign.{Sign}
use Rattle.scanner.specs.declared.token.Place.{Place}
use Rattle.syntax.specs.declared.leaf.Number.{Number}
use Rattle.syntax.specs.declared.declaration.LocalType.{LocalType}
use Rattle.syntax.specs.declared.declaration.MemberType.{MemberType}
use Rattle.syntax.specs.declared.declaration.ResultType.{ResultType}
use Rattle.syntax.specs.Lexeme.{NameTree}
use Rattle.syntax.specs.Tree.{ExpressionTree, ConjunctionTrees, RelationTrees, ComparisonTree, SummandTrees}
use Rattle.syntax.specs.Tree.{MultiplierTrees, FactorTree, IndexTree, StatementTrees, PartTree, LocalTree}
use Rattle.syntax.specs.Tree.{ParameterTree, MemberTree, ProcedureTree, MonitorProcedureTree, RecoverTree}
use Rattle.syntax.specs.Tree.{MonitorTree}

-- what can be expected
pub data Symbol : Type 0 where
  -- a keyword or a sign, without its place and with it
  AWord : Keyword → Symbol
  AMark : Sign → Symbol
  AWordAt : Keyword → Symbol
  AnOpening : Symbol
  AName : Symbol
  ANumber : Symbol
  AFactor : Symbol
  AnIndex : Symbol
  Multipliers : Symbol
  Summands : Symbol
  AComparison : Symbol
  Relations : Symbol
  Conjunctions : Symbol
  Arguments : Symbol
  MoreArguments : Symbol
  ADottedName : Symbol
  AnInto : Symbol
  AValue : Symbol
  Statements : Symbol
  AnElse : Symbol
  AnAborted : Symbol
  ALocalType : Symbol
  AMemberType : Symbol
  AResultType : Symbol
  AReturns : Symbol
  Locals : Symbol
  Members : Symbol
  Parameters : Symbol
  MoreParameters : Symbol
  Procedures : Symbol
  MonitorProcedures : Symbol
  ARecover : Symbol
  Monitors : Symbol
  -- the end of a nesting, at no lexeme
  Closed : Symbol

-- the trees of a symbol, and of a stack
abbrev pub Tree : Symbol → Type 0
Tree (AWord w) = Unit {0}
Tree (AMark s) = Unit {0}
Tree (AWordAt w) = Place
Tree AnOpening = Place
Tree AName = NameTree
Tree ANumber = Number
Tree AFactor = FactorTree
Tree AnIndex = IndexTree
Tree Multipliers = MultiplierTrees
Tree Summands = SummandTrees
Tree AComparison = ComparisonTree
Tree Relations = RelationTrees
Tree Conjunctions = ConjunctionTrees
Tree Arguments = List ExpressionTree
Tree MoreArguments = List ExpressionTree
Tree ADottedName = Option NameTree
Tree AnInto = Option NameTree
Tree AValue = Option ExpressionTree
Tree Statements = StatementTrees
Tree AnElse = PartTree
Tree AnAborted = PartTree
Tree ALocalType = LocalType
Tree AMemberType = MemberType
Tree AResultType = ResultType
Tree AReturns = Option ResultType
Tree Locals = List LocalTree
Tree Members = List MemberTree
Tree Parameters = List ParameterTree
Tree MoreParameters = List ParameterTree
Tree Procedures = List ProcedureTree
Tree MonitorProcedures = List MonitorProcedureTree
Tree ARecover = Option RecoverTree
Tree Monitors = List MonitorTree
Tree Closed = Unit {0}

-- the trees of a stack of symbols
abbrev pub Trees : List Symbol → Type 0
Trees [] = Unit {0}
Trees (s ∷ σ) = Tree s × Trees σ

-- at a lexeme a symbol is replaced by others, with its tree made of theirs; or a factor begins, and behind it come
-- others; or the symbol is over, with an empty tree; or the lexeme can't stand there
pub data Reply (A : Type 0) : Type 0 where
  Push : (σ : List Symbol) → (Trees σ → A) → Reply A
  Start : (ρ : List Symbol) → (Trees ρ → FactorTree) → (τ : List Symbol) → (FactorTree → Trees τ → A) → Reply A
  Skip : A → Reply A
  Reject : Reply A

-- what a factor that begins with a lexeme goes on with
pub data Beginning : Type 0 where
  Begins : (ρ : List Symbol) → (Trees ρ → FactorTree) → Beginning
  NoFactor : Beginning
