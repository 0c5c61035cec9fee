-- The faults of operands: their own, then that of their type.
use Rattle.std.specs.Prelude.{List, ◌++◌}
use Rattle.scanner.specs.declared.refusal.Refusal.{Refusal}
use Rattle.program.specs.declared.kinds.ValueType.{ValueType}
use Rattle.program.specs.declared.kinds.ValueType.TheVariants.{Integer, Boolean}
use Rattle.syntax.specs.declared.expression.Comparator.{Comparator}
use Rattle.syntax.specs.Tree.{FactorTree, TermTree, SumTree, RelationTree, Relates, Compares, RelationTrees, AndAlso}
use Rattle.syntax.specs.Lexeme.{NameTree}
use Rattle.syntax.specs.Tree.{AllOf, ConjunctionTree, ConjunctionTrees, OrElse, AnyOf, ExpressionTree, Reads, At}
use Rattle.types.specs.Scope.{Scope}
use Rattle.types.specs.Typing.{factor_type, term_type, relation_type, conjunction_type}
use Rattle.types.specs.Typing.{factor_place, term_place, relation_place, conjunction_place}
use Rattle.types.specs.ExpressionFaults.{wants, factor_faults, term_faults, relation_faults, conjunction_faults}
use Rattle.types.specs.ExpressionFaults.{expression_faults}

-- a factor of which a type is wanted
abbrev pub factor_operand : Scope → ValueType → FactorTree → List Refusal
factor_operand s wanted f = factor_faults s f ++ wants wanted (factor_type s f) (factor_place f)

-- an element of an array
abbrev pub element : Scope → NameTree → ExpressionTree → List Refusal
element s name e = factor_faults s (Reads name (At e))

-- a term, which is INTEGER
abbrev pub term_operand : Scope → TermTree → List Refusal
term_operand s t = term_faults s t ++ wants Integer (term_type s t) (term_place t)

-- a relation, which is BOOLEAN
abbrev pub relation_operand : Scope → RelationTree → List Refusal
relation_operand s r = relation_faults s r ++ wants Boolean (relation_type s r) (relation_place r)

-- a conjunction, which is BOOLEAN
abbrev pub conjunction_operand : Scope → ConjunctionTree → List Refusal
conjunction_operand s c = conjunction_faults s c ++ wants Boolean (conjunction_type s c) (conjunction_place c)

-- two sums with a sign between them
abbrev pub comparison : Scope → SumTree → Comparator → SumTree → List Refusal
comparison s l sign r = relation_faults s (Relates l (Compares sign r))

-- two relations or more with AND between them
abbrev pub all_of : Scope → RelationTree → RelationTree → RelationTrees → List Refusal
all_of s first second rest = conjunction_faults s (AllOf first (AndAlso second rest))

-- two conjunctions or more with OR between them
abbrev pub any_of : Scope → ConjunctionTree → ConjunctionTree → ConjunctionTrees → List Refusal
any_of s first second rest = expression_faults s (AnyOf first (OrElse second rest))
