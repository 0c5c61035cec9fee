-- The faults of expressions.
use Rattle.std.specs.Prelude.{List, [], ◌++◌, Option, Some}
use Rattle.scanner.specs.declared.token.Place.{Place}
use Rattle.scanner.specs.declared.refusal.Refusal.{Refusal}
use Rattle.scanner.specs.declared.refusal.RefusalKind.TheVariants.{TypeMismatch}
use Rattle.program.specs.declared.kinds.ValueType.{ValueType}
use Rattle.program.specs.declared.kinds.ValueType.TheVariants.{Integer, Boolean, Process}
use Rattle.program.specs.declared.kinds.MemberType.{MemberType}
use Rattle.program.specs.declared.kinds.MemberType.TheVariants.{Variable, Condition, Array}
use Rattle.syntax.specs.declared.expression.Comparator.{Comparator}
use Rattle.syntax.specs.declared.expression.Comparator.TheVariants as C
use Rattle.syntax.specs.Tree.{ExpressionTree, AnyOf, ConjunctionTrees, NoConjunctions, OrElse, ConjunctionTree, AllOf}
use Rattle.syntax.specs.Tree.{RelationTrees, NoRelations, AndAlso, RelationTree, Relates, ComparisonTree}
use Rattle.syntax.specs.Tree.{NoComparison}
use Rattle.syntax.specs.Tree.{Compares, SumTree, Total, SummandTrees, NoSummands, Adds, TermTree, Product}
use Rattle.syntax.specs.Tree.{MultiplierTrees, NoMultipliers, Scales, FactorTree, Constant, Truthful, Reads, Group}
use Rattle.syntax.specs.Tree.{Minus, Not, IndexTree, NoIndex, At}
use Rattle.types.specs.Scope.{Scope, Meaning, Nothing, ALocal, AMember, meaning}
use Rattle.types.specs.Faults.{where_true, unknown, mismatch}
use Rattle.types.specs.Typing.{differs, differ, expression_type, conjunction_type, relation_type}
use Rattle.types.specs.Typing.{sum_type, term_type, factor_type}
use Rattle.types.specs.Typing.{expression_place, conjunction_place, relation_place, sum_place, term_place}
use Rattle.types.specs.Typing.{factor_place}

-- an operand of another type than the one wanted is a fault at its first token
abbrev pub wants : ValueType → Option ValueType → Place → List Refusal
wants wanted t place = where_true (differs wanted t) TypeMismatch place

-- a member is read or assigned as a variable, and indexed as an array
abbrev pub kind_faults : MemberType → IndexTree → Place → List Refusal
kind_faults (Variable t) NoIndex place = []
kind_faults Condition NoIndex place = mismatch place
kind_faults (Array n) NoIndex place = mismatch place
kind_faults (Variable t) (At e) place = mismatch place
kind_faults Condition (At e) place = mismatch place
kind_faults (Array n) (At e) place = []

-- a name that means nothing, or that is used against its kind
abbrev pub use_faults : Meaning → IndexTree → Place → List Refusal
use_faults Nothing index place = unknown place
use_faults (ALocal slot t) NoIndex place = []
use_faults (ALocal slot t) (At e) place = mismatch place
use_faults (AMember member kind) index place = kind_faults kind index place

-- `=` and `#` take two INTEGER or two BOOLEAN: a PROCESS on the left is a fault there, else a right side of another
-- type
abbrev pub equality_faults : Option ValueType → Option ValueType → Place → Place → List Refusal
equality_faults (Some Process) right left_place right_place = mismatch left_place
equality_faults left right left_place right_place = where_true (differ left right) TypeMismatch right_place

-- of `<`, `<=`, `>` and `>=` both sides are integers
abbrev pub order_faults : Option ValueType → Option ValueType → Place → Place → List Refusal
order_faults left right left_place right_place = wants Integer left left_place ++ wants Integer right right_place

-- the faults of two sides with a comparison's sign between them, by their types and places
abbrev pub comparison_faults : Comparator → Option ValueType → Option ValueType → Place → Place → List Refusal
comparison_faults C.Equal left right p q = equality_faults left right p q
comparison_faults C.NotEqual left right p q = equality_faults left right p q
comparison_faults C.Less left right p q = order_faults left right p q
comparison_faults C.LessEqual left right p q = order_faults left right p q
comparison_faults C.Greater left right p q = order_faults left right p q
comparison_faults C.GreaterEqual left right p q = order_faults left right p q

abbrev mutual
  pub expression_faults : Scope → ExpressionTree → List Refusal
  expression_faults s (AnyOf c cs) = conjunction_faults s c ++ any_of_faults s c cs

  -- behind a first conjunction: where more follow, all of them are BOOLEAN
  pub any_of_faults : Scope → ConjunctionTree → ConjunctionTrees → List Refusal
  any_of_faults s first NoConjunctions = []
  any_of_faults s first (OrElse c cs) = wants Boolean (conjunction_type s first) (conjunction_place first)
      ++ conjunction_faults s c ++ wants Boolean (conjunction_type s c)
      (conjunction_place c) ++ conjunctions_faults s cs

  pub conjunctions_faults : Scope → ConjunctionTrees → List Refusal
  conjunctions_faults s NoConjunctions = []
  conjunctions_faults s (OrElse c cs) = conjunction_faults s c
      ++ wants Boolean (conjunction_type s c) (conjunction_place c) ++ conjunctions_faults s cs

  pub conjunction_faults : Scope → ConjunctionTree → List Refusal
  conjunction_faults s (AllOf r rs) = relation_faults s r ++ all_of_faults s r rs

  pub all_of_faults : Scope → RelationTree → RelationTrees → List Refusal
  all_of_faults s first NoRelations = []
  all_of_faults s first (AndAlso r rs) = wants Boolean (relation_type s first) (relation_place first)
      ++ relation_faults s r ++ wants Boolean (relation_type s r) (relation_place r) ++ relations_faults s rs

  pub relations_faults : Scope → RelationTrees → List Refusal
  relations_faults s NoRelations = []
  relations_faults s (AndAlso r rs) = relation_faults s r
      ++ wants Boolean (relation_type s r) (relation_place r) ++ relations_faults s rs

  pub relation_faults : Scope → RelationTree → List Refusal
  relation_faults s (Relates l r) = sum_faults s l ++ compared_faults s l r

  pub compared_faults : Scope → SumTree → ComparisonTree → List Refusal
  compared_faults s l NoComparison = []
  compared_faults s l (Compares sign r) = sum_faults s r
      ++ comparison_faults sign (sum_type s l) (sum_type s r) (sum_place l) (sum_place r)

  pub sum_faults : Scope → SumTree → List Refusal
  sum_faults s (Total t ts) = term_faults s t ++ total_faults s t ts

  pub total_faults : Scope → TermTree → SummandTrees → List Refusal
  total_faults s first NoSummands = []
  total_faults s first (Adds sign place t ts) = wants Integer (term_type s first) (term_place first)
      ++ term_faults s t ++ wants Integer (term_type s t) (term_place t) ++ summands_faults s ts

  pub summands_faults : Scope → SummandTrees → List Refusal
  summands_faults s NoSummands = []
  summands_faults s (Adds sign place t ts) = term_faults s t
      ++ wants Integer (term_type s t) (term_place t) ++ summands_faults s ts

  pub term_faults : Scope → TermTree → List Refusal
  term_faults s (Product f fs) = factor_faults s f ++ product_faults s f fs

  pub product_faults : Scope → FactorTree → MultiplierTrees → List Refusal
  product_faults s first NoMultipliers = []
  product_faults s first (Scales operator f fs) = wants Integer (factor_type s first) (factor_place first)
      ++ factor_faults s f ++ wants Integer (factor_type s f) (factor_place f) ++ multipliers_faults s fs

  pub multipliers_faults : Scope → MultiplierTrees → List Refusal
  multipliers_faults s NoMultipliers = []
  multipliers_faults s (Scales operator f fs) = factor_faults s f
      ++ wants Integer (factor_type s f) (factor_place f) ++ multipliers_faults s fs

  pub factor_faults : Scope → FactorTree → List Refusal
  factor_faults s (Constant n) = []
  factor_faults s (Truthful t) = []
  factor_faults s (Reads name index) = use_faults (meaning s name) index name.place ++ index_faults s index
  factor_faults s (Group place e) = expression_faults s e
  factor_faults s (Minus place f) = factor_faults s f ++ wants Integer (factor_type s f) (factor_place f)
  factor_faults s (Not place f) = factor_faults s f ++ wants Boolean (factor_type s f) (factor_place f)

  -- an index is INTEGER
  pub index_faults : Scope → IndexTree → List Refusal
  index_faults s NoIndex = []
  index_faults s (At e) = expression_faults s e ++ wants Integer (expression_type s e) (expression_place e)
