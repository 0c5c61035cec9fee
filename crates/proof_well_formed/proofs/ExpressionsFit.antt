-- An expression without a fault has its type.
use Rattle.std.proofs.Common.{◌≡◌, Option, Some, None, refl, sym, subst, arith, not, false}
use Rattle.std.specs.Prelude.{⊤}
use Rattle.scanner.specs.declared.token.Place.{Place}
use Rattle.scanner.specs.declared.refusal.RefusalKind.TheVariants.{TypeMismatch}
use Rattle.program.specs.declared.kinds.ValueType.{ValueType}
use Rattle.program.specs.declared.kinds.ValueType.TheVariants.{Integer, Boolean, Process}
use Rattle.program.specs.declared.kinds.MemberType.TheVariants.{Variable, Condition, Array}
use Rattle.program.specs.declared.kinds.Operator.TheVariants as O
use Rattle.program.specs.Scope as P
use Rattle.program.specs.Trees.{Expression, Both}
use Rattle.program.specs.Typing.{HasType}
use Rattle.syntax.specs.declared.expression.Comparator.{Comparator}
use Rattle.syntax.specs.declared.expression.Comparator.TheVariants as C
use Rattle.syntax.specs.declared.expression.SumOperator.{SumOperator}
use Rattle.syntax.specs.declared.expression.ProductOperator.{ProductOperator}
use Rattle.syntax.specs.declared.expression.SumOperator.TheVariants.{Plus, Minus as Minus'}
use Rattle.syntax.specs.declared.expression.ProductOperator.TheVariants.{Times, Divide, Mod}
use Rattle.syntax.specs.Lexeme.{NameTree}
use Rattle.syntax.specs.Tree.{ExpressionTree, AnyOf, ConjunctionTrees, NoConjunctions, OrElse, ConjunctionTree, AllOf}
use Rattle.syntax.specs.Tree.{RelationTrees, NoRelations, AndAlso, RelationTree, Relates}
use Rattle.syntax.specs.Tree.{NoComparison}
use Rattle.syntax.specs.Tree.{Compares, SumTree, Total, SummandTrees, NoSummands, Adds, TermTree, Product}
use Rattle.syntax.specs.Tree.{MultiplierTrees, NoMultipliers, Scales, FactorTree, Constant, Truthful, Reads, Group}
use Rattle.syntax.specs.Tree.{Minus, Not, IndexTree, NoIndex, At}
use Rattle.types.specs.Scope.{Scope, Meaning, Nothing, ALocal, AMember, meaning}
use Rattle.types.specs.Typing.{same_type, type_of_use, expression_type, conjunction_type, relation_type, sum_type}
use Rattle.types.specs.Typing.{term_type, factor_type, expression_place, conjunction_place, relation_place, sum_place}
use Rattle.types.specs.Typing.{term_place, factor_place}
use Rattle.types.specs.ExpressionFaults.{wants, use_faults, equality_faults, order_faults, comparison_faults}
use Rattle.types.specs.ExpressionFaults.{expression_faults, any_of_faults, conjunctions_faults, conjunction_faults}
use Rattle.types.specs.ExpressionFaults.{all_of_faults, relations_faults, relation_faults, compared_faults, sum_faults}
use Rattle.types.specs.ExpressionFaults.{total_faults, summands_faults, term_faults, product_faults}
use Rattle.types.specs.ExpressionFaults.{multipliers_faults, factor_faults, index_faults}
use Rattle.types.specs.Expressions.{expression, any_of, conjunction, all_of, relation, sum, total, term}
use Rattle.types.specs.Expressions.{product, factor, read, comparison_operator, sum_operator, product_operator}
use Rattle.proof_well_formed.proofs.Free.{Free, parts, three, chain, untrue}
use Rattle.proof_well_formed.proofs.Agreement.{Agrees}
use Rattle.proof_well_formed.proofs.Small.{SmallExpression, SmallConjunctions, SmallConjunction, SmallRelations}
use Rattle.proof_well_formed.proofs.Small.{SmallRelation, SmallSum, SmallSummands, SmallTerm}
use Rattle.proof_well_formed.proofs.Small.{SmallMultipliers, SmallFactor, SmallIndex}

-- an expression has the type that is known of it
abbrev pub HasKnown : P.Scope → Expression → Option ValueType → Type 0
HasKnown t e None = ⊥
HasKnown t e (Some k) = HasType t e k

pub same : (a b : ValueType) → not (same_type a b) ≡ false → a ≡ b
same Integer Integer h = refl
same Boolean Boolean h = refl
same Process Process h = refl
same Integer Boolean h = cc
same Integer Process h = cc
same Boolean Integer h = cc
same Boolean Process h = cc
same Process Integer h = cc
same Process Boolean h = cc

-- an operand of the type that is wanted
pub wanted : (t : P.Scope) (e : Expression) (w : ValueType) (k : Option ValueType) (place : Place)
    → Free (wants w k place) → HasKnown t e k → HasType t e w
wanted t e w None place f h = absurd h
wanted t e w (Some k) place f h =
    subst (λ x. HasType t e x) (sym (same w k (untrue (not (same_type w k)) TypeMismatch place tt f))) h

abbrev pub IsEquality : P.Scope → Expression → Expression → Type 0
IsEquality t a b = (u : ValueType) × (u ≡ Process → ⊥) × HasType t a u × HasType t b u

equality : (t : P.Scope) (a b : Expression) (l r : Option ValueType) (p q : Place) → Free (equality_faults l r p q)
    → HasKnown t a l → HasKnown t b r → IsEquality t a b
equality t a b None r p q f g h = absurd g
equality t a b (Some Process) r p q f g h = absurd (f.0 tt)
equality t a b (Some Integer) r p q f g h = (Integer, λ e. cc, g, wanted t b Integer r q f h)
equality t a b (Some Boolean) r p q f g h = (Boolean, λ e. cc, g, wanted t b Boolean r q f h)

orders : (t : P.Scope) (a b : Expression) (l r : Option ValueType) (p q : Place) → Free (order_faults l r p q)
    → HasKnown t a l → HasKnown t b r → HasType t a Integer × HasType t b Integer
orders t a b l r p q f g h = let z = parts (wants Integer l p) (wants Integer r q) f in
    (wanted t a Integer l p z.0 g, wanted t b Integer r q z.1 h)

pub comparison_fits : (t : P.Scope) (sign : Comparator) (a b : Expression) (l r : Option ValueType) (p q : Place)
    → Free (comparison_faults sign l r p q) → HasKnown t a l → HasKnown t b r
    → HasType t (Both (comparison_operator sign) a b) Boolean
comparison_fits t C.Equal a b l r p q f g h = let e = equality t a b l r p q f g h in (e.0, e.1, e.2, e.3, refl)
comparison_fits t C.NotEqual a b l r p q f g h = let e = equality t a b l r p q f g h in (e.0, e.1, e.2, e.3, refl)
comparison_fits t C.Less a b l r p q f g h = let e = orders t a b l r p q f g h in (Integer, refl, e.0, e.1, refl)
comparison_fits t C.LessEqual a b l r p q f g h = let e = orders t a b l r p q f g h in (Integer, refl, e.0, e.1, refl)
comparison_fits t C.Greater a b l r p q f g h = let e = orders t a b l r p q f g h in (Integer, refl, e.0, e.1, refl)
comparison_fits t C.GreaterEqual a b l r p q f g h = let e = orders t a b l r p q f g h in
    (Integer, refl, e.0, e.1, refl)

sum_result : (t : P.Scope) (sign : SumOperator) (a b : Expression) → HasType t a Integer → HasType t b Integer
    → HasType t (Both (sum_operator sign) a b) Integer
sum_result t Plus a b g h = (Integer, refl, g, h, refl)
sum_result t Minus' a b g h = (Integer, refl, g, h, refl)

product_result : (t : P.Scope) (operator : ProductOperator) (a b : Expression) → HasType t a Integer
    → HasType t b Integer → HasType t (Both (product_operator operator) a b) Integer
product_result t Times a b g h = (Integer, refl, g, h, refl)
product_result t Divide a b g h = (Integer, refl, g, h, refl)
product_result t Mod a b g h = (Integer, refl, g, h, refl)

-- an index is a number
abbrev pub IsIndex : Scope → P.Scope → IndexTree → Type 0
IsIndex s t NoIndex = ⊤
IsIndex s t (At e) = HasType t (expression s e) Integer

read_fits : (s : Scope) (t : P.Scope) → Agrees s t → (name : NameTree) (m : Meaning) → meaning s name ≡ m
    → (index : IndexTree) (place : Place) → Free (use_faults m index place) → IsIndex s t index
    → HasKnown t (read s m index) (type_of_use m index)
read_fits s t a name Nothing e index place f i = absurd (f.0 tt)
read_fits s t a name (ALocal slot k) e NoIndex place f i = a.local name slot k e
read_fits s t a name (ALocal slot k) e (At j) place f i = absurd (f.0 tt)
read_fits s t a name (AMember m (Variable k)) e NoIndex place f i = a.member name m (Variable k) e
read_fits s t a name (AMember m Condition) e NoIndex place f i = absurd (f.0 tt)
read_fits s t a name (AMember m (Array n)) e NoIndex place f i = absurd (f.0 tt)
read_fits s t a name (AMember m (Variable k)) e (At j) place f i = absurd (f.0 tt)
read_fits s t a name (AMember m Condition) e (At j) place f i = absurd (f.0 tt)
read_fits s t a name (AMember m (Array n)) e (At j) place f i =
    let h = a.member name m (Array n) e in ((h.0, n, h.1), i, refl)

module _ (s : Scope) (t : P.Scope) (a : Agrees s t) where
  mutual
    pub expression_fits : (e : ExpressionTree) → Free (expression_faults s e) → SmallExpression e
        → HasKnown t (expression s e) (expression_type s e)
    expression_fits (AnyOf c NoConjunctions) f n =
        conjunction_fits c (parts (conjunction_faults s c) (any_of_faults s c NoConjunctions) f).0 n.0
    expression_fits (AnyOf c (OrElse d ds)) f n =
        let p = chain (conjunction_faults s c) (wants Boolean (conjunction_type s c) (conjunction_place c))
        (conjunction_faults s d) (wants Boolean (conjunction_type s d) (conjunction_place d))
        (conjunctions_faults s ds) f in
        any_fits (Both O.Or (conjunction s c) (conjunction s d)) (
          Boolean,
          refl,
          wanted t (conjunction s c) Boolean (conjunction_type s c) (conjunction_place c) p.1 (conjunction_fits c p.0
              n.0),
          wanted t (conjunction s d) Boolean (conjunction_type s d) (conjunction_place d) p.3 (conjunction_fits d p.2
              n.1.0),
          refl,
        ) ds p.4 n.1.1

    any_fits : (left : Expression) → HasType t left Boolean → (cs : ConjunctionTrees)
        → Free (conjunctions_faults s cs) → SmallConjunctions cs → HasType t (any_of s left cs) Boolean
    any_fits left h NoConjunctions f n = h
    any_fits left h (OrElse c cs) f n =
        let p = three (conjunction_faults s c) (wants Boolean (conjunction_type s c) (conjunction_place c))
        (conjunctions_faults s cs) f in
        any_fits (Both O.Or left (conjunction s c)) (
          Boolean,
          refl,
          h,
          wanted t (conjunction s c) Boolean (conjunction_type s c) (conjunction_place c) p.1 (conjunction_fits c p.0
              n.0),
          refl,
        ) cs p.2 n.1

    conjunction_fits : (c : ConjunctionTree) → Free (conjunction_faults s c) → SmallConjunction c
        → HasKnown t (conjunction s c) (conjunction_type s c)
    conjunction_fits (AllOf r NoRelations) f n =
        relation_fits r (parts (relation_faults s r) (all_of_faults s r NoRelations) f).0 n.0
    conjunction_fits (AllOf r (AndAlso q qs)) f n =
        let p = chain (relation_faults s r) (wants Boolean (relation_type s r) (relation_place r))
        (relation_faults s q) (wants Boolean (relation_type s q) (relation_place q)) (relations_faults s qs) f in
        all_fits (Both O.And (relation s r) (relation s q)) (
          Boolean,
          refl,
          wanted t (relation s r) Boolean (relation_type s r) (relation_place r) p.1 (relation_fits r p.0 n.0),
          wanted t (relation s q) Boolean (relation_type s q) (relation_place q) p.3 (relation_fits q p.2 n.1.0),
          refl,
        ) qs p.4 n.1.1

    all_fits : (left : Expression) → HasType t left Boolean → (rs : RelationTrees)
        → Free (relations_faults s rs) → SmallRelations rs → HasType t (all_of s left rs) Boolean
    all_fits left h NoRelations f n = h
    all_fits left h (AndAlso r rs) f n =
        let p = three (relation_faults s r) (wants Boolean (relation_type s r) (relation_place r))
        (relations_faults s rs) f in
        all_fits (Both O.And left (relation s r)) (
          Boolean,
          refl,
          h,
          wanted t (relation s r) Boolean (relation_type s r) (relation_place r) p.1 (relation_fits r p.0 n.0),
          refl,
        ) rs p.2 n.1

    relation_fits : (r : RelationTree) → Free (relation_faults s r) → SmallRelation r
        → HasKnown t (relation s r) (relation_type s r)
    relation_fits (Relates l NoComparison) f n =
        sum_fits l (parts (sum_faults s l) (compared_faults s l NoComparison) f).0 n.0
    relation_fits (Relates l (Compares sign r)) f n =
        let p = parts (sum_faults s l) (compared_faults s l (Compares sign r)) f in
        let q = parts (sum_faults s r) (comparison_faults sign (sum_type s l) (sum_type s r) (sum_place l)
        (sum_place r)) p.1 in
        comparison_fits t sign (sum s l) (sum s r) (sum_type s l) (sum_type s r) (sum_place l) (sum_place r) q.1
        (sum_fits l p.0 n.0) (sum_fits r q.0 n.1)

    sum_fits : (x : SumTree) → Free (sum_faults s x) → SmallSum x → HasKnown t (sum s x) (sum_type s x)
    sum_fits (Total x NoSummands) f n = term_fits x (parts (term_faults s x) (total_faults s x NoSummands) f).0 n.0
    sum_fits (Total x (Adds sign place y ys)) f n =
        let p = chain (term_faults s x) (wants Integer (term_type s x) (term_place x)) (term_faults s y)
        (wants Integer (term_type s y) (term_place y)) (summands_faults s ys) f in
        total_fits (Both (sum_operator sign) (term s x) (term s y)) (sum_result t sign (term s x) (term s y)
        (wanted t (term s x) Integer (term_type s x) (term_place x) p.1 (term_fits x p.0 n.0))
        (wanted t (term s y) Integer (term_type s y) (term_place y) p.3 (term_fits y p.2 n.1.0))) ys p.4 n.1.1

    total_fits : (left : Expression) → HasType t left Integer → (ys : SummandTrees)
        → Free (summands_faults s ys) → SmallSummands ys → HasType t (total s left ys) Integer
    total_fits left h NoSummands f n = h
    total_fits left h (Adds sign place y ys) f n =
        let p = three (term_faults s y) (wants Integer (term_type s y) (term_place y)) (summands_faults s ys) f in
        total_fits (Both (sum_operator sign) left (term s y)) (sum_result t sign left (term s y) h
        (wanted t (term s y) Integer (term_type s y) (term_place y) p.1 (term_fits y p.0 n.0))) ys p.2 n.1

    term_fits : (x : TermTree) → Free (term_faults s x) → SmallTerm x → HasKnown t (term s x) (term_type s x)
    term_fits (Product x NoMultipliers) f n =
        factor_fits x (parts (factor_faults s x) (product_faults s x NoMultipliers) f).0 n.0
    term_fits (Product x (Scales operator y ys)) f n =
        let p = chain (factor_faults s x) (wants Integer (factor_type s x) (factor_place x)) (factor_faults s y)
        (wants Integer (factor_type s y) (factor_place y)) (multipliers_faults s ys) f in
        product_fits (Both (product_operator operator) (factor s x) (factor s y)) (product_result t operator
        (factor s x) (factor s y)
        (wanted t (factor s x) Integer (factor_type s x) (factor_place x) p.1 (factor_fits x p.0 n.0))
        (wanted t (factor s y) Integer (factor_type s y) (factor_place y) p.3 (factor_fits y p.2 n.1.0)))
        ys p.4 n.1.1

    product_fits : (left : Expression) → HasType t left Integer → (ys : MultiplierTrees)
        → Free (multipliers_faults s ys) → SmallMultipliers ys → HasType t (product s left ys) Integer
    product_fits left h NoMultipliers f n = h
    product_fits left h (Scales operator y ys) f n =
        let p = three (factor_faults s y) (wants Integer (factor_type s y) (factor_place y))
        (multipliers_faults s ys) f in
        product_fits (Both (product_operator operator) left (factor s y)) (product_result t operator left
        (factor s y) h
        (wanted t (factor s y) Integer (factor_type s y) (factor_place y) p.1 (factor_fits y p.0 n.0))) ys p.2 n.1

    factor_fits : (x : FactorTree) → Free (factor_faults s x) → SmallFactor x
        → HasKnown t (factor s x) (factor_type s x)
    factor_fits (Constant k) f n = (omega (arith, n), refl)
    factor_fits (Truthful k) f n = refl
    factor_fits (Reads name index) f n =
        let p = parts (use_faults (meaning s name) index name.place) (index_faults s index) f in
        read_fits s t a name (meaning s name) refl index name.place p.0 (index_fits index p.1 n)
    factor_fits (Group place e) f n = expression_fits e f n
    factor_fits (Minus place x) f n =
        let p = parts (factor_faults s x) (wants Integer (factor_type s x) (factor_place x)) f in
        (wanted t (factor s x) Integer (factor_type s x) (factor_place x) p.1 (factor_fits x p.0 n), refl)
    factor_fits (Not place x) f n =
        let p = parts (factor_faults s x) (wants Boolean (factor_type s x) (factor_place x)) f in
        (wanted t (factor s x) Boolean (factor_type s x) (factor_place x) p.1 (factor_fits x p.0 n), refl)

    pub index_fits : (index : IndexTree) → Free (index_faults s index) → SmallIndex index → IsIndex s t index
    index_fits NoIndex f n = tt
    index_fits (At e) f n =
        let p = parts (expression_faults s e) (wants Integer (expression_type s e) (expression_place e)) f in
        wanted t (expression s e) Integer (expression_type s e) (expression_place e) p.1 (expression_fits e p.0 n)
