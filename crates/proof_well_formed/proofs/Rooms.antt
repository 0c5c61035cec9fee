-- How many operands expressions of so many nestings need: each of the five levels of operators in a nesting adds one.
use Rattle.std.proofs.Common.{ℕ, ◌+◌, ◌*◌, ◌≤◌, arith}
use Rattle.program.specs.Measures.{room}
use Rattle.program.specs.Trees.{Expression, Both}
use Rattle.program.specs.declared.kinds.Operator.TheVariants as O
use Rattle.syntax.specs.Nesting.{expression_nesting, conjunctions_nesting, conjunction_nesting, relations_nesting}
use Rattle.syntax.specs.Nesting.{relation_nesting, sum_nesting, summands_nesting, term_nesting}
use Rattle.syntax.specs.Nesting.{multipliers_nesting, factor_nesting}
use Rattle.syntax.specs.Tree.{ExpressionTree, AnyOf, ConjunctionTrees, NoConjunctions, OrElse, ConjunctionTree, AllOf}
use Rattle.syntax.specs.Tree.{RelationTrees, NoRelations, AndAlso, RelationTree, Relates}
use Rattle.syntax.specs.Tree.{NoComparison}
use Rattle.syntax.specs.Tree.{Compares, SumTree, Total, SummandTrees, NoSummands, Adds, TermTree, Product}
use Rattle.syntax.specs.Tree.{MultiplierTrees, NoMultipliers, Scales, FactorTree, Constant, Truthful, Reads, Group}
use Rattle.syntax.specs.Tree.{Minus, Not, NoIndex, At}
use Rattle.types.specs.Scope.{Scope, Meaning, Nothing, ALocal, AMember, meaning}
use Rattle.types.specs.Expressions.{expression, any_of, conjunction, all_of, relation, sum, total, term}
use Rattle.types.specs.Expressions.{product, factor, sum_operator, product_operator}
use Rattle.types.specs.Expressions.{variable_of}

variable_room : (m : Meaning) → room (variable_of m) ≤ 1
variable_room Nothing = omega arith
variable_room (ALocal slot kind) = omega arith
variable_room (AMember member kind) = omega arith

module _ (s : Scope) where
  mutual
    pub expression_room : (e : ExpressionTree) → room (expression s e) ≤ 6 + 5 * expression_nesting e
    expression_room (AnyOf c cs) =
        let h : room (conjunction s c) ≤ 5 + 5 * conjunction_nesting c = conjunction_room c in
        any_room (conjunction s c) (expression_nesting (AnyOf c cs)) (omega (arith, h)) cs (omega arith)

    any_room : (left : Expression) (k : ℕ) → room left ≤ 6 + 5 * k → (cs : ConjunctionTrees)
        → conjunctions_nesting cs ≤ k → room (any_of s left cs) ≤ 6 + 5 * k
    any_room left k h NoConjunctions n = h
    any_room left k h (OrElse c cs) n =
        let g : room (conjunction s c) ≤ 5 + 5 * conjunction_nesting c = conjunction_room c in
        any_room (Both O.Or left (conjunction s c)) k (omega (arith, h, g, n)) cs (omega (arith, n))

    conjunction_room : (c : ConjunctionTree) → room (conjunction s c) ≤ 5 + 5 * conjunction_nesting c
    conjunction_room (AllOf r rs) =
        let h : room (relation s r) ≤ 4 + 5 * relation_nesting r = relation_room r in
        all_room (relation s r) (conjunction_nesting (AllOf r rs)) (omega (arith, h)) rs (omega arith)

    all_room : (left : Expression) (k : ℕ) → room left ≤ 5 + 5 * k → (rs : RelationTrees)
        → relations_nesting rs ≤ k → room (all_of s left rs) ≤ 5 + 5 * k
    all_room left k h NoRelations n = h
    all_room left k h (AndAlso r rs) n =
        let g : room (relation s r) ≤ 4 + 5 * relation_nesting r = relation_room r in
        all_room (Both O.And left (relation s r)) k (omega (arith, h, g, n)) rs (omega (arith, n))

    relation_room : (r : RelationTree) → room (relation s r) ≤ 4 + 5 * relation_nesting r
    relation_room (Relates l NoComparison) =
        let h : room (sum s l) ≤ 3 + 5 * sum_nesting l = sum_room l in omega (arith, h)
    relation_room (Relates l (Compares sign r)) =
        let h : room (sum s l) ≤ 3 + 5 * sum_nesting l = sum_room l in
        let g : room (sum s r) ≤ 3 + 5 * sum_nesting r = sum_room r in omega (arith, h, g)

    sum_room : (x : SumTree) → room (sum s x) ≤ 3 + 5 * sum_nesting x
    sum_room (Total x ys) =
        let h : room (term s x) ≤ 2 + 5 * term_nesting x = term_room x in
        total_room (term s x) (sum_nesting (Total x ys)) (omega (arith, h)) ys (omega arith)

    total_room : (left : Expression) (k : ℕ) → room left ≤ 3 + 5 * k → (ys : SummandTrees)
        → summands_nesting ys ≤ k → room (total s left ys) ≤ 3 + 5 * k
    total_room left k h NoSummands n = h
    total_room left k h (Adds sign place y ys) n =
        let g : room (term s y) ≤ 2 + 5 * term_nesting y = term_room y in
        total_room (Both (sum_operator sign) left (term s y)) k (omega (arith, h, g, n)) ys (omega (arith, n))

    term_room : (x : TermTree) → room (term s x) ≤ 2 + 5 * term_nesting x
    term_room (Product x ys) =
        let h : room (factor s x) ≤ 1 + 5 * factor_nesting x = factor_room x in
        product_room (factor s x) (term_nesting (Product x ys)) (omega (arith, h)) ys (omega arith)

    product_room : (left : Expression) (k : ℕ) → room left ≤ 2 + 5 * k → (ys : MultiplierTrees)
        → multipliers_nesting ys ≤ k → room (product s left ys) ≤ 2 + 5 * k
    product_room left k h NoMultipliers n = h
    product_room left k h (Scales operator y ys) n =
        let g : room (factor s y) ≤ 1 + 5 * factor_nesting y = factor_room y in
        product_room (Both (product_operator operator) left (factor s y)) k (omega (arith, h, g, n)) ys
        (omega (arith, n))

    factor_room : (x : FactorTree) → room (factor s x) ≤ 1 + 5 * factor_nesting x
    factor_room (Constant k) = omega arith
    factor_room (Truthful k) = omega arith
    factor_room (Reads name NoIndex) =
        let h : room (variable_of (meaning s name)) ≤ 1 = variable_room (meaning s name) in omega (arith, h)
    factor_room (Reads name (At e)) =
        let h : room (expression s e) ≤ 6 + 5 * expression_nesting e = expression_room e in omega (arith, h)
    factor_room (Group place e) =
        let h : room (expression s e) ≤ 6 + 5 * expression_nesting e = expression_room e in omega (arith, h)
    factor_room (Minus place x) =
        let h : room (factor s x) ≤ 1 + 5 * factor_nesting x = factor_room x in omega (arith, h)
    factor_room (Not place x) =
        let h : room (factor s x) ≤ 1 + 5 * factor_nesting x = factor_room x in omega (arith, h)
