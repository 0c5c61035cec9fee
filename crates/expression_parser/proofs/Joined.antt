-- Each level of an expression, joined of what it begins with and what stands behind that.
use Rattle.std.proofs.Common.{◌≡◌, ◌≢◌, ◌≤◌, ℕ, List, [], ◌∷◌, Result, Ok, Err, IfOk, refl, ap, sym, subst, arith}
use Rattle.scanner.specs.declared.refusal.Refusal.{Refusal}
use Rattle.scanner.specs.declared.token.Keyword.TheVariants as K
use Rattle.syntax.specs.declared.expression.Expression.{Expression}
use Rattle.syntax.specs.declared.expression.Conjunction.{Conjunction}
use Rattle.syntax.specs.declared.expression.Relation.{Relation}
use Rattle.syntax.specs.declared.expression.Sum.{Sum}
use Rattle.syntax.specs.declared.expression.Term.{Term}
use Rattle.syntax.specs.declared.expression.Comparator.{Comparator}
use Rattle.syntax.specs.Lexeme.{Lexeme, Word}
use Rattle.syntax.specs.Tree.{ExpressionTree, AnyOf, NoConjunctions, ConjunctionTree, AllOf, NoRelations, RelationTree}
use Rattle.syntax.specs.Tree.{Relates, NoComparison, Compares, SumTree, Total, NoSummands, TermTree, Product}
use Rattle.syntax.specs.Tree.{NoMultipliers, FactorTree}
use Rattle.syntax.specs.View.{term_of, sum_of, relation_of, conjunction_of, expression_of, lone_term, lone_sum}
use Rattle.syntax.specs.View.{lone_relation, lone_conjunction, lone_expression}
use Rattle.grammar.specs.Machine.{AFactor, Multipliers, Summands, AComparison, Relations, Conjunctions, Item, Skip}
use Rattle.grammar.specs.Machine.{Symbol, Tree, Trees, reply}
use Rattle.grammar.specs.Machine.{term, sum, relation, conjunction, expression, compares, reply_multipliers}
use Rattle.grammar.specs.Machine.{reply_summands, reply_comparison, reply_relations, reply_conjunctions}
use Rattle.grammar.specs.Reading.{lexeme_at, rest_after, Passes, Fails, Leads}
use Rattle.grammar.proofs.Joins.{here, skip, done, leads_as, then1, then2, then3, then4, then5, fail3}
use Rattle.token_cursor.specs.Openers.{EndsExpression}
use Rattle.token_cursor.specs.Taking.{Absent}
use Rattle.token_cursor.proofs.Small.{pushes}
use Rattle.expression_parser.specs.Levels.{term_trees, sum_trees, relation_trees, conjunction_trees, expression_trees}
use Rattle.expression_parser.specs.Levels.{first_factor, first_term, left_sum, first_relation, first_conjunction}
use Rattle.expression_parser.specs.Levels.{further_factors, further_terms, comparison_part, further_relations}
use Rattle.expression_parser.specs.Levels.{further_conjunctions}
use Rattle.expression_parser.proofs.LevelLaws.{sum_back}

pub term_joined : {d : ℕ} {a n b : List Item} {f : FactorTree} (t : TermTree) → first_factor t ≡ f
    → Passes d (AFactor ∷ []) (f, tt) a n → Passes d (Multipliers ∷ []) (further_factors t, tt) n b
    → Passes d (term []) (term_trees t) a b
term_joined {d} {a} {n} (Product g fs) e p q =
    let P : FactorTree → Type 0 = λ z. Passes d (AFactor ∷ []) (z, tt) a n in
    done (then1 {d = d} {d' = d} q (then1 {d = d} {d' = d} (subst P (sym e) p) (here {σ = term []}) (omega arith))
    (omega arith))

pub sum_joined : {d : ℕ} {a n b : List Item} {t : TermTree} (s : SumTree) → first_term s ≡ t
    → Passes d (term []) (term_trees t) a n → Passes d (Summands ∷ []) (further_terms s, tt) n b
    → Passes d (sum []) (sum_trees s) a b
sum_joined {d} {a} {n} (Total u ts) e p q =
    let P : TermTree → Type 0 = λ z. Passes d (term []) (term_trees z) a n in
    done (then1 {d = d} {d' = d} q (then2 {d = d} {d' = d} (subst P (sym e) p) (here {σ = sum []}) (omega arith))
    (omega arith))

pub relation_joined : {d : ℕ} {a n b : List Item} {s : SumTree} (r : RelationTree) → left_sum r ≡ s
    → Passes d (sum []) (sum_trees s) a n → Passes d (AComparison ∷ []) (comparison_part r, tt) n b
    → Passes d (relation []) (relation_trees r) a b
relation_joined {d} {a} {n} (Relates l c) e p q =
    let P : SumTree → Type 0 = λ z. Passes d (sum []) (sum_trees z) a n in
    done (then1 {d = d} {d' = d} q (then3 {d = d} {d' = d} (subst P (sym e) p) (here {σ = relation []})
    (omega arith)) (omega arith))

pub conjunction_joined : {d : ℕ} {a n b : List Item} {r : RelationTree} (c : ConjunctionTree) → first_relation c ≡ r
    → Passes d (relation []) (relation_trees r) a n → Passes d (Relations ∷ []) (further_relations c, tt) n b
    → Passes d (conjunction []) (conjunction_trees c) a b
conjunction_joined {d} {a} {n} (AllOf q rs) e p l =
    let P : RelationTree → Type 0 = λ z. Passes d (relation []) (relation_trees z) a n in
    done (then1 {d = d} {d' = d} l (then4 {d = d} {d' = d} (subst P (sym e) p) (here {σ = conjunction []})
    (omega arith)) (omega arith))

pub expression_joined : {d : ℕ} {a n b : List Item} {c : ConjunctionTree} (x : ExpressionTree)
    → first_conjunction x ≡ c → Passes d (conjunction []) (conjunction_trees c) a n
    → Passes d (Conjunctions ∷ []) (further_conjunctions x, tt) n b → Passes d (expression []) (expression_trees x) a b
expression_joined {d} {a} {n} (AnyOf b cs) e p q =
    let P : ConjunctionTree → Type 0 = λ z. Passes d (conjunction []) (conjunction_trees z) a n in
    done (then1 {d = d} {d' = d} q (then5 {d = d} {d' = d} (subst P (sym e) p) (here {σ = expression []})
    (omega arith)) (omega arith))

-- the same of what a function returns
pub term_ok : {d : ℕ} {a n : List Item} (b : List Item) (f : FactorTree) (r : Result Term Refusal)
    → Passes d (AFactor ∷ []) (f, tt) a n → IfOk r (λ x. first_factor (term_of x) ≡ f)
    → IfOk r (λ x. Passes d (Multipliers ∷ []) (further_factors (term_of x), tt) n b)
    → IfOk r (λ x. Passes d (term []) (term_trees (term_of x)) a b)
term_ok b f (Ok x) p e q = term_joined (term_of x) e p q
term_ok b f (Err y) p e q = tt

pub sum_ok : {d : ℕ} {a n : List Item} (b : List Item) (t : TermTree) (r : Result Sum Refusal)
    → Passes d (term []) (term_trees t) a n → IfOk r (λ x. first_term (sum_of x) ≡ t)
    → IfOk r (λ x. Passes d (Summands ∷ []) (further_terms (sum_of x), tt) n b)
    → IfOk r (λ x. Passes d (sum []) (sum_trees (sum_of x)) a b)
sum_ok b t (Ok x) p e q = sum_joined (sum_of x) e p q
sum_ok b t (Err y) p e q = tt

pub relation_ok : {d : ℕ} {a n : List Item} (b : List Item) (s : SumTree) (r : Result Relation Refusal)
    → Passes d (sum []) (sum_trees s) a n → IfOk r (λ x. left_sum (relation_of x) ≡ s)
    → IfOk r (λ x. Passes d (AComparison ∷ []) (comparison_part (relation_of x), tt) n b)
    → IfOk r (λ x. Passes d (relation []) (relation_trees (relation_of x)) a b)
relation_ok b s (Ok x) p e q = relation_joined (relation_of x) e p q
relation_ok b s (Err y) p e q = tt

pub conjunction_ok : {d : ℕ} {a n : List Item} (b : List Item) (q : RelationTree) (r : Result Conjunction Refusal)
    → Passes d (relation []) (relation_trees q) a n → IfOk r (λ x. first_relation (conjunction_of x) ≡ q)
    → IfOk r (λ x. Passes d (Relations ∷ []) (further_relations (conjunction_of x), tt) n b)
    → IfOk r (λ x. Passes d (conjunction []) (conjunction_trees (conjunction_of x)) a b)
conjunction_ok b q (Ok x) p e l = conjunction_joined (conjunction_of x) e p l
conjunction_ok b q (Err y) p e l = tt

pub expression_ok : {d : ℕ} {a n : List Item} (b : List Item) (c : ConjunctionTree) (r : Result Expression Refusal)
    → Passes d (conjunction []) (conjunction_trees c) a n → IfOk r (λ x. first_conjunction (expression_of x) ≡ c)
    → IfOk r (λ x. Passes d (Conjunctions ∷ []) (further_conjunctions (expression_of x), tt) n b)
    → IfOk r (λ x. Passes d (expression []) (expression_trees (expression_of x)) a b)
expression_ok b c (Ok x) p e q = expression_joined (expression_of x) e p q
expression_ok b c (Err y) p e q = tt

-- what is alone at a level
pub term_alone : {d : ℕ} {a n : List Item} {f : FactorTree} → Passes d (AFactor ∷ []) (f, tt) a n
    → reply_multipliers (lexeme_at n) ≡ Skip NoMultipliers → Passes d (term []) (term_trees (lone_term f)) a n
term_alone {f = f} p h = term_joined (lone_term f) refl p (skip {s = Multipliers} h)

pub sum_alone : {d : ℕ} {a n : List Item} {t : TermTree} {z : SumTree} → z ≡ lone_sum t
    → Passes d (term []) (term_trees t) a n → reply_summands (lexeme_at n) ≡ Skip NoSummands
    → Passes d (sum []) (sum_trees z) a n
sum_alone {d} {a} {n} {t} e p h =
    let P : SumTree → Type 0 = λ s. Passes d (sum []) (sum_trees s) a n in
    subst P (sym e) (sum_joined (lone_sum t) refl p (skip {s = Summands} h))

pub expression_of_sum : {d : ℕ} {a n : List Item} {s : SumTree} {z : ExpressionTree}
    → z ≡ lone_expression (lone_conjunction (lone_relation s)) → Passes d (sum []) (sum_trees s) a n
    → EndsExpression (lexeme_at n) → Passes d (expression []) (expression_trees z) a n
expression_of_sum {d} {a} {n} {s} e p h =
    let P : ExpressionTree → Type 0 = λ x. Passes d (expression []) (expression_trees x) a n in
    let r = lone_relation s in
    subst P (sym e) (expression_joined (lone_expression (lone_conjunction r)) refl
    (conjunction_joined (lone_conjunction r) refl
    (relation_joined r refl p (skip {s = AComparison} h.compared)) (skip {s = Relations} h.relations))
    (skip {s = Conjunctions} h.conjunctions))

pub no_and : (k : Lexeme) → k ≢ Word K.And → reply_relations k ≡ Skip NoRelations
no_and (Word K.And) h = absurd (h refl)
no_and _ h = refl

pub no_or : (k : Lexeme) → k ≢ Word K.Or → reply_conjunctions k ≡ Skip NoConjunctions
no_or (Word K.Or) h = absurd (h refl)
no_or _ h = refl

-- nothing more at a level
pub relations_absent : {d : ℕ} {a b : List Item} {z : ConjunctionTree} {r : RelationTree} → z ≡ lone_conjunction r
    → Absent (Word K.And) a b → Passes d (Relations ∷ []) (further_relations z, tt) a b
relations_absent {d} {a} {b} {r = r} e w =
    let P : ConjunctionTree → Type 0 = λ x. Passes d (Relations ∷ []) (further_relations x, tt) a b in
    let Q : List Item → Type 0 = λ i. Passes d (Relations ∷ []) (NoRelations, tt) a i in
    subst P (sym e) (subst Q (sym w.same) (skip {s = Relations} (no_and (lexeme_at a) w.first)))

pub conjunctions_absent : {d : ℕ} {a b : List Item} {z : ExpressionTree} {c : ConjunctionTree}
    → z ≡ lone_expression c → Absent (Word K.Or) a b → Passes d (Conjunctions ∷ []) (further_conjunctions z, tt) a b
conjunctions_absent {d} {a} {b} {c = c} e w =
    let P : ExpressionTree → Type 0 = λ x. Passes d (Conjunctions ∷ []) (further_conjunctions x, tt) a b in
    let Q : List Item → Type 0 = λ i. Passes d (Conjunctions ∷ []) (NoConjunctions, tt) a i in
    subst P (sym e) (subst Q (sym w.same) (skip {s = Conjunctions} (no_or (lexeme_at a) w.first)))

-- the end of a chain that a loop has read so far
pub chain_ends : {d : ℕ} {s : Symbol} {g : Trees (s ∷ []) → Trees (s ∷ [])} {x : Tree s} {a n b : List Item}
    → Leads d (s ∷ []) (s ∷ []) g a n → reply s (lexeme_at n) ≡ Skip x → b ≡ n → Passes d (s ∷ []) (g (x, tt)) a b
chain_ends {d} {s} {g} {x} {a} l h e =
    let P : List Item → Type 0 = λ i. Passes d (s ∷ []) (g (x, tt)) a i in
    subst P (sym e) (done (then1 {d = d} {d' = d} (skip h) l (omega arith)))

-- a comparison, or none
pub comparison_absent : {d : ℕ} {a : List Item} {z : RelationTree} {s : SumTree} → z ≡ lone_relation s
    → reply_comparison (lexeme_at a) ≡ Skip NoComparison → Passes d (AComparison ∷ []) (comparison_part z, tt) a a
comparison_absent {d} {a} e h =
    let P : RelationTree → Type 0 = λ x. Passes d (AComparison ∷ []) (comparison_part x, tt) a a in
    subst P (sym e) (skip {s = AComparison} h)

pub comparison_passes : {d : ℕ} {n p b : List Item} {op : Comparator} {l : SumTree} {z : RelationTree} (r : SumTree)
    → z ≡ Relates l (Compares op r) → d ≤ 64 → reply_comparison (lexeme_at n) ≡ compares op → p ≡ rest_after n
    → Passes d (sum []) (sum_trees r) p b → Passes d (AComparison ∷ []) (comparison_part z, tt) n b
comparison_passes {d} {n} {b = b} {op = op} r e le h q x =
    let P : RelationTree → Type 0 = λ y. Passes d (AComparison ∷ []) (comparison_part y, tt) n b in
    subst P (sym e) (done (leads_as (λ _. ap (λ s. (Compares op s, tt)) (sum_back r))
    (then3 {d = d} {d' = d} x (pushes {s = AComparison} h q (omega arith)) (omega arith))))

pub comparison_fails : {d : ℕ} {n p : List Item} {op : Comparator} {e : Refusal} → d ≤ 64
    → reply_comparison (lexeme_at n) ≡ compares op → p ≡ rest_after n → Fails d (sum []) p e
    → Fails d (AComparison ∷ []) n e
comparison_fails {d} le h q f =
    fail3 {d = d} {d' = d} f (pushes {s = AComparison} h q (omega arith)) (omega arith)
