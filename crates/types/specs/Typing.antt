-- The types of expressions. An expression without a type of its own has every type: a name that means nothing, or that
-- is used against its kind, which is a fault already.
use Rattle.std.specs.Prelude.{Option, Some, None, Bool, true, false, not}
use Rattle.scanner.specs.declared.token.Place.{Place}
use Rattle.program.specs.declared.kinds.ValueType.{ValueType}
use Rattle.program.specs.declared.kinds.ValueType.TheVariants.{Integer, Boolean, Process}
use Rattle.program.specs.declared.kinds.MemberType.{MemberType}
use Rattle.program.specs.declared.kinds.MemberType.TheVariants.{Variable, Condition, Array}
use Rattle.syntax.specs.Tree.{ExpressionTree, AnyOf, NoConjunctions, OrElse, ConjunctionTree, AllOf}
use Rattle.syntax.specs.Tree.{NoRelations, AndAlso, RelationTree, Relates}
use Rattle.syntax.specs.Tree.{NoComparison}
use Rattle.syntax.specs.Tree.{Compares, SumTree, Total, NoSummands, Adds, TermTree, Product}
use Rattle.syntax.specs.Tree.{NoMultipliers, Scales, FactorTree, Constant, Truthful, Reads, Group}
use Rattle.syntax.specs.Tree.{Minus, Not, IndexTree, NoIndex, At}
use Rattle.types.specs.Scope.{Scope, Meaning, Nothing, ALocal, AMember, meaning}

-- whether two types are the same
abbrev pub same_type : ValueType → ValueType → Bool
same_type Integer Integer = true
same_type Boolean Boolean = true
same_type Process Process = true
same_type _ _ = false

-- whether an expression's type is known, and isn't the one wanted
abbrev pub differs : ValueType → Option ValueType → Bool
differs wanted None = false
differs wanted (Some t) = not (same_type wanted t)

-- whether two types are known, and aren't one
abbrev pub differ : Option ValueType → Option ValueType → Bool
differ None right = false
differ (Some t) right = differs t right

-- the type of a member that is read or assigned: a variable's
abbrev pub variable_type : MemberType → Option ValueType
variable_type (Variable t) = Some t
variable_type Condition = None
variable_type (Array n) = None

-- the type of one that is indexed: an array's elements are numbers
abbrev pub element_type : MemberType → Option ValueType
element_type (Variable t) = None
element_type Condition = None
element_type (Array n) = Some Integer

-- the type of a name with an index or without, where it has one
abbrev pub type_of_use : Meaning → IndexTree → Option ValueType
type_of_use Nothing index = None
type_of_use (ALocal slot t) NoIndex = Some t
type_of_use (ALocal slot t) (At e) = None
type_of_use (AMember member kind) NoIndex = variable_type kind
type_of_use (AMember member kind) (At e) = element_type kind

abbrev mutual
  pub expression_type : Scope → ExpressionTree → Option ValueType
  expression_type s (AnyOf c NoConjunctions) = conjunction_type s c
  expression_type s (AnyOf c (OrElse d ds)) = Some Boolean

  pub conjunction_type : Scope → ConjunctionTree → Option ValueType
  conjunction_type s (AllOf r NoRelations) = relation_type s r
  conjunction_type s (AllOf r (AndAlso q qs)) = Some Boolean

  pub relation_type : Scope → RelationTree → Option ValueType
  relation_type s (Relates l NoComparison) = sum_type s l
  relation_type s (Relates l (Compares sign r)) = Some Boolean

  pub sum_type : Scope → SumTree → Option ValueType
  sum_type s (Total t NoSummands) = term_type s t
  sum_type s (Total t (Adds sign place u us)) = Some Integer

  pub term_type : Scope → TermTree → Option ValueType
  term_type s (Product f NoMultipliers) = factor_type s f
  term_type s (Product f (Scales operator g gs)) = Some Integer

  pub factor_type : Scope → FactorTree → Option ValueType
  factor_type s (Constant n) = Some Integer
  factor_type s (Truthful t) = Some Boolean
  factor_type s (Reads name index) = type_of_use (meaning s name) index
  factor_type s (Group place e) = expression_type s e
  factor_type s (Minus place f) = Some Integer
  factor_type s (Not place f) = Some Boolean

-- the places of first tokens
abbrev pub factor_place : FactorTree → Place
factor_place (Constant n) = n.place
factor_place (Truthful t) = t.place
factor_place (Reads name index) = name.place
factor_place (Group place e) = place
factor_place (Minus place f) = place
factor_place (Not place f) = place

-- the place of a term: that of its first factor
abbrev pub term_place : TermTree → Place
term_place (Product f fs) = factor_place f

-- the place of a sum: that of its first term
abbrev pub sum_place : SumTree → Place
sum_place (Total t ts) = term_place t

-- the place of a relation: that of its left side
abbrev pub relation_place : RelationTree → Place
relation_place (Relates l r) = sum_place l

-- the place of a conjunction: that of its first relation
abbrev pub conjunction_place : ConjunctionTree → Place
conjunction_place (AllOf r rs) = relation_place r

-- the place of an expression: that of its first conjunction
abbrev pub expression_place : ExpressionTree → Place
expression_place (AnyOf c cs) = conjunction_place c
