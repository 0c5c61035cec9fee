-- The faults of operands: their own, then that of their type.
use Rattle.std.proofs.Common.{List, ◌++◌}
use Rattle.scanner.specs.declared.refusal.Refusal.{Refusal}
use Rattle.program.specs.declared.kinds.ValueType.TheVariants.{Integer, Boolean}
use Rattle.syntax.specs.Tree.{FactorTree, TermTree, RelationTree, ConjunctionTree}
use Rattle.types.specs.ExpressionFaults as f
use Rattle.types.specs.Scope.{Scope}
use Rattle.types.specs.Typing as t

-- a factor of a product
abbrev pub factor_operand : Scope → FactorTree → List Refusal
factor_operand s g = f.factor_faults s g ++ f.wants Integer (t.factor_type s g) (t.factor_place g)

-- a term of a total
abbrev pub term_operand : Scope → TermTree → List Refusal
term_operand s u = f.term_faults s u ++ f.wants Integer (t.term_type s u) (t.term_place u)

-- a relation before or behind AND
abbrev pub relation_operand : Scope → RelationTree → List Refusal
relation_operand s r = f.relation_faults s r ++ f.wants Boolean (t.relation_type s r) (t.relation_place r)

-- a conjunction before or behind OR
abbrev pub conjunction_operand : Scope → ConjunctionTree → List Refusal
conjunction_operand s c = f.conjunction_faults s c ++ f.wants Boolean (t.conjunction_type s c) (t.conjunction_place c)
