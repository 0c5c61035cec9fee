-- What is known of what was resolved: its type, and whether nothing of it is faulty.
use Rattle.std.specs.Prelude.{◌≡◌, List, [], ◌∷◌, Bool, true, false, Option, Some, None}
use Rattle.scanner.specs.declared.token.Place.{Place}
use Rattle.scanner.specs.declared.refusal.Refusal.{Refusal}
use Rattle.program.specs.declared.kinds.ValueType.{ValueType}
use Rattle.program.specs.Trees.{Expression}
use Rattle.program.specs.Views.{expression_of, statement_of, target_of}
use Rattle.syntax.specs.Lexeme.{NameTree}
use Rattle.syntax.specs.Tree.{ExpressionTree, ConjunctionTree, RelationTree, SumTree, TermTree, FactorTree}
use Rattle.syntax.specs.Tree.{StatementTree, VariableTree, Reads, At, Return}
use Rattle.types.specs.CallFaults.{statement_faults, return_faults}
use Rattle.types.specs.ExpressionFaults as f
use Rattle.types.specs.Expressions as x
use Rattle.types.specs.Scope.{Scope, meaning}
use Rattle.types.specs.StatementFaults.{target_faults, target_type}
use Rattle.types.specs.Statements.{statement, target}
use Rattle.types.specs.Typing as t
use Rattle.resolver.specs.declared.known.Typed.{Typed}
use Rattle.resolver.specs.declared.known.Indexed.{Indexed}
use Rattle.resolver.specs.declared.known.Aim.{Aim}
use Rattle.resolver.specs.declared.known.Judged.{Judged}

-- there is no fault
abbrev pub is_clean : List Refusal → Bool
is_clean [] = true
is_clean (e ∷ es) = false

-- what is wrong with an operand where a type is wanted, if any
abbrev pub wants_of : Option ValueType → Option ValueType → Place → List Refusal
wants_of None kind place = []
wants_of (Some wanted) kind place = f.wants wanted kind place

-- this expression was made, of this type, and it is clean where there are none of these faults
abbrev pub Says : Expression → Option ValueType → List Refusal → Typed → Type 0
Says e kind fs made = (expression_of made.expression ≡ e) × (made.kind ≡ kind) × (made.is_clean ≡ is_clean fs)

-- a factor, and what stands above it in the grammar
abbrev pub IsFactor : Scope → FactorTree → Typed → Type 0
IsFactor s g made = Says (x.factor s g) (t.factor_type s g) (f.factor_faults s g) made

-- a term
abbrev pub IsTerm : Scope → TermTree → Typed → Type 0
IsTerm s u made = Says (x.term s u) (t.term_type s u) (f.term_faults s u) made

-- a sum
abbrev pub IsSum : Scope → SumTree → Typed → Type 0
IsSum s u made = Says (x.sum s u) (t.sum_type s u) (f.sum_faults s u) made

-- a relation
abbrev pub IsRelation : Scope → RelationTree → Typed → Type 0
IsRelation s r made = Says (x.relation s r) (t.relation_type s r) (f.relation_faults s r) made

-- a conjunction
abbrev pub IsConjunction : Scope → ConjunctionTree → Typed → Type 0
IsConjunction s c made = Says (x.conjunction s c) (t.conjunction_type s c) (f.conjunction_faults s c) made

-- what an expression is resolved to, and what is known of it
abbrev pub IsTyped : Scope → ExpressionTree → Typed → Type 0
IsTyped s e made = Says (x.expression s e) (t.expression_type s e) (f.expression_faults s e) made

-- what an element of an array is resolved to, and what is known of it
abbrev pub IsIndexed : Scope → NameTree → ExpressionTree → Indexed → Type 0
IsIndexed s name e made = (made.element.value.array ≡ x.array_of (meaning s name))
    × (expression_of made.element.value.index ≡ x.expression s e) × (made.kind ≡ t.type_of_use (meaning s name) (At e))
    × (made.is_clean ≡ is_clean (f.factor_faults s (Reads name (At e))))

-- what is assigned to, and what is known of it
abbrev pub IsAim : Scope → VariableTree → Aim → Type 0
IsAim s v made = (target_of made.target ≡ target s v) × (made.kind ≡ target_type s v)
    × (made.is_clean ≡ is_clean (target_faults s v))

-- what a RETURN is resolved to where a result of this type is due, if any, and whether it is clean; that none stands in
-- a RECOVER part is left out
abbrev pub IsReturn : Scope → Place → Option ValueType → Option ExpressionTree → Judged → Type 0
IsReturn s place due e made = (statement_of made.statement ≡ statement s (Return place e))
    × (made.is_clean ≡ is_clean (return_faults s place due e))

-- what a statement is resolved to, and whether it is clean
abbrev pub IsJudged : Scope → StatementTree → Judged → Type 0
IsJudged s tree made = (statement_of made.statement ≡ statement s tree)
    × (made.is_clean ≡ is_clean (statement_faults s tree))
