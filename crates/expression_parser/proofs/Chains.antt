-- Chains of operators: the first link with those behind it, and a loop's one more link at a time.
use Rattle.std.proofs.Common.{◌≡◌, ◌≤◌, ℕ, List, [], ◌∷◌, ◌++◌, refl, ap, sym, subst, ◌∙◌, arith}
use Rattle.scanner.specs.declared.token.Place.{Place}
use Rattle.scanner.specs.declared.token.Keyword.TheVariants as K
use Rattle.syntax.specs.declared.expression.Conjunction.{Conjunction}
use Rattle.syntax.specs.declared.expression.Relation.{Relation}
use Rattle.syntax.specs.declared.expression.Summand.{Summand}
use Rattle.syntax.specs.declared.expression.SumOperator.{SumOperator}
use Rattle.syntax.specs.declared.expression.ProductOperator.{ProductOperator}
use Rattle.syntax.specs.declared.expression.Multiplier.{Multiplier}
use Rattle.scanner.specs.declared.refusal.Refusal.{Refusal}
use Rattle.syntax.specs.Lexeme.{Word}
use Rattle.syntax.specs.Tree.{ExpressionTree, SumTree, AnyOf, ConjunctionTree, AllOf, Total, TermTree, Product}
use Rattle.syntax.specs.Tree.{RelationTree, ConjunctionTrees, OrElse, RelationTrees, AndAlso, SummandTrees, Adds}
use Rattle.syntax.specs.Tree.{FactorTree, MultiplierTrees, Scales}
use Rattle.syntax.specs.View.{factor_of, term_of, relation_of, conjunction_of, multipliers_before, summands_before}
use Rattle.syntax.specs.View.{relations_before, conjunctions_before}
use Rattle.grammar.specs.Machine.{Trees, AFactor, Multipliers, Summands, Relations, Conjunctions, Item, term, relation}
use Rattle.grammar.specs.Machine.{conjunction, scales, adds, reply_multipliers, reply_summands, reply_relations}
use Rattle.grammar.specs.Machine.{reply_conjunctions, relation_tree, conjunction_tree}
use Rattle.grammar.specs.Reading.{lexeme_at, rest_after, Passes, Fails, Leads}
use Rattle.grammar.proofs.Joins.{done, leads_as, onto, then1, fail1, then2, fail2, then4, fail4, then5, fail5}
use Rattle.token_cursor.specs.Taking.{Found}
use Rattle.expression_parser.specs.Levels.{term_trees, relation_trees, conjunction_trees, further_factors}
use Rattle.expression_parser.specs.Levels.{further_terms}
use Rattle.expression_parser.specs.Levels.{further_relations, further_conjunctions}
use Rattle.token_cursor.proofs.Small.{pushes}
use Rattle.expression_parser.proofs.LevelLaws.{term_back, relation_back, conjunction_back}

multipliers_more : (ms : List Multiplier) (m : Multiplier) (later : MultiplierTrees)
    → multipliers_before (ms ++ m ∷ []) later ≡ multipliers_before ms (Scales m.operator (factor_of m.factor) later)
multipliers_more [] m later = refl
multipliers_more (n ∷ ms) m later = ap (Scales n.operator (factor_of n.factor)) (multipliers_more ms m later)

summands_more : (ms : List Summand) (m : Summand) (later : SummandTrees)
    → summands_before (ms ++ m ∷ []) later ≡ summands_before ms (Adds m.operator m.place (term_of m.term) later)
summands_more [] m later = refl
summands_more (n ∷ ms) m later = ap (Adds n.operator n.place (term_of n.term)) (summands_more ms m later)

relations_more : (rs : List Relation) (r : Relation) (later : RelationTrees)
    → relations_before (rs ++ r ∷ []) later ≡ relations_before rs (AndAlso (relation_of r) later)
relations_more [] r later = refl
relations_more (q ∷ rs) r later = ap (AndAlso (relation_of q)) (relations_more rs r later)

conjunctions_more : (cs : List Conjunction) (c : Conjunction) (later : ConjunctionTrees)
    → conjunctions_before (cs ++ c ∷ []) later ≡ conjunctions_before cs (OrElse (conjunction_of c) later)
conjunctions_more [] c later = refl
conjunctions_more (b ∷ cs) c later = ap (OrElse (conjunction_of b)) (conjunctions_more cs c later)

-- the operator of a link that comes first, and what is expected behind it
factor_next : {d : ℕ} {n p : List Item} {op : ProductOperator} → d ≤ 64 → reply_multipliers (lexeme_at n) ≡ scales
    op
    → p ≡ rest_after n → Leads d (Multipliers ∷ []) (AFactor ∷ Multipliers ∷ []) (λ t. (Scales op t.0 t.1.0, tt))
    n p
factor_next le r q = pushes {s = Multipliers} r q (omega arith)

-- a further factor, and those behind it
pub multipliers_pass : {d : ℕ} {n p m b : List Item} {op : ProductOperator} {f : FactorTree} {fs : MultiplierTrees}
    → d ≤ 64 → reply_multipliers (lexeme_at n) ≡ scales op → p ≡ rest_after n → Passes d (AFactor ∷ []) (f, tt) p m
    → Passes d (Multipliers ∷ []) (fs, tt) m b → Passes d (Multipliers ∷ []) (Scales op f fs, tt) n b
multipliers_pass le r q x y = done (then1 y (then1 x (factor_next le r q) (omega arith)) (omega arith))

-- a refusal of the first further factor, of those behind it, and of one that a loop comes to
pub multipliers_fail : {d : ℕ} {n p : List Item} {op : ProductOperator} {e : Refusal} → d ≤ 64
    → reply_multipliers (lexeme_at n) ≡ scales op → p ≡ rest_after n → Fails d (AFactor ∷ []) p e
    → Fails d (Multipliers ∷ []) n e
multipliers_fail le r q f = fail1 f (factor_next le r q) (omega arith)

pub multipliers_fail_behind : {d : ℕ} {n p m : List Item} {op : ProductOperator} {f : FactorTree} {e : Refusal}
    → d ≤ 64 → reply_multipliers (lexeme_at n) ≡ scales op → p ≡ rest_after n → Passes d (AFactor ∷ []) (f, tt) p m
    → Fails d (Multipliers ∷ []) m e → Fails d (Multipliers ∷ []) n e
multipliers_fail_behind le r q x y = fail1 y (then1 x (factor_next le r q) (omega arith)) (omega arith)

pub multipliers_fail_later : {d : ℕ} {a n p : List Item} {op : ProductOperator} {e : Refusal}
    {g : Trees (Multipliers ∷ []) → Trees (Multipliers ∷ [])} → d ≤ 64
    → Leads d (Multipliers ∷ []) (Multipliers ∷ []) g a n → reply_multipliers (lexeme_at n) ≡ scales op
    → p ≡ rest_after n → Fails d (AFactor ∷ []) p e → Fails d (Multipliers ∷ []) a e
multipliers_fail_later le l r q f = fail1 f (onto (factor_next le r q) l) (omega arith)

pub multipliers_go_on : {d : ℕ} {a n p b : List Item} (ms all : List Multiplier) (m : Multiplier) → all ≡ ms ++ m
    ∷ []
    → d ≤ 64 → Leads d (Multipliers ∷ []) (Multipliers ∷ []) (λ y. (multipliers_before ms y.0, tt)) a n
    → reply_multipliers (lexeme_at n) ≡ scales m.operator → p ≡ rest_after n
    → Passes d (AFactor ∷ []) (factor_of m.factor, tt) p b → Leads d (Multipliers ∷ []) (Multipliers ∷ [])
    (λ y. (multipliers_before all y.0, tt)) a b
multipliers_go_on ms all m e le l r q f =
    leads_as (λ y. ap (λ z. (z, tt)) (sym (ap (λ l. multipliers_before l y.0) e ∙ multipliers_more ms m y.0)))
    (then1 f (onto (factor_next le r q) l) (omega arith))

pub multipliers_as : {d : ℕ} {a b : List Item} {z : TermTree} {f : FactorTree} {fs : MultiplierTrees}
    → z ≡ Product f fs → Passes d (Multipliers ∷ []) (fs, tt) a b → Passes d (Multipliers ∷ [])
    (further_factors z, tt)
    a b
multipliers_as {d} {a} {b} e p =
    let P : TermTree → Type 0 = λ z. Passes d (Multipliers ∷ []) (further_factors z, tt) a b in
    subst P (sym e) p

-- the same of terms
term_next : {d : ℕ} {n p : List Item} {op : SumOperator} {place : Place} → d ≤ 64
    → reply_summands (lexeme_at n) ≡ adds op place → p ≡ rest_after n → Leads d (Summands ∷ [])
    (term (Summands ∷ []))
    (λ t. (Adds op place (Product t.0 t.1.0) t.1.1.0, tt)) n p
term_next le r q = pushes {s = Summands} r q (omega arith)

pub summands_pass : {d : ℕ} {n p m b : List Item} {op : SumOperator} {place : Place} {ts : SummandTrees}
    (t : TermTree)
    → d ≤ 64 → reply_summands (lexeme_at n) ≡ adds op place → p ≡ rest_after n → Passes d (term []) (term_trees t)
    p m
    → Passes d (Summands ∷ []) (ts, tt) m b → Passes d (Summands ∷ []) (Adds op place t ts, tt) n b
summands_pass {d} {op = op} {place = place} {ts = ts} t le r q x y =
    done (leads_as (λ _. ap (λ z. (Adds op place z ts, tt)) (term_back t))
    (then1 {d = d} {d' = d} y (then2 {d = d} {d' = d} x (term_next le r q) (omega arith)) (omega arith)))

pub summands_fail : {d : ℕ} {n p : List Item} {op : SumOperator} {place : Place} {e : Refusal} → d ≤ 64
    → reply_summands (lexeme_at n) ≡ adds op place → p ≡ rest_after n → Fails d (term []) p e
    → Fails d (Summands ∷ []) n e
summands_fail le r q f = fail2 f (term_next le r q) (omega arith)

pub summands_fail_behind : {d : ℕ} {n p m : List Item} {op : SumOperator} {place : Place} {e : Refusal}
    (t : TermTree)
    → d ≤ 64 → reply_summands (lexeme_at n) ≡ adds op place → p ≡ rest_after n → Passes d (term []) (term_trees t)
    p m
    → Fails d (Summands ∷ []) m e → Fails d (Summands ∷ []) n e
summands_fail_behind {d} t le r q x y =
    fail1 {d = d} {d' = d} y (then2 {d = d} {d' = d} x (term_next le r q) (omega arith)) (omega arith)

pub summands_fail_later : {d : ℕ} {a n p : List Item} {op : SumOperator} {place : Place} {e : Refusal}
    {g : Trees (Summands ∷ []) → Trees (Summands ∷ [])} → d ≤ 64 → Leads d (Summands ∷ []) (Summands ∷ []) g a n
    → reply_summands (lexeme_at n) ≡ adds op place → p ≡ rest_after n → Fails d (term []) p e
    → Fails d (Summands ∷ []) a e
summands_fail_later le l r q f = fail2 f (onto (term_next le r q) l) (omega arith)

pub summands_go_on : {d : ℕ} {a n p b : List Item} (ms all : List Summand) (m : Summand) → all ≡ ms ++ m ∷ [] → d
    ≤ 64
    → Leads d (Summands ∷ []) (Summands ∷ []) (λ y. (summands_before ms y.0, tt)) a n
    → reply_summands (lexeme_at n) ≡ adds m.operator m.place → p ≡ rest_after n
    → Passes d (term []) (term_trees (term_of m.term)) p b → Leads d (Summands ∷ []) (Summands ∷ [])
    (λ y. (summands_before all y.0, tt)) a b
summands_go_on ms all m e le l r q f =
    leads_as
    (λ y. ap (λ z. (z, tt)) (sym (ap (λ l. summands_before l y.0) e ∙ summands_more ms m y.0 ∙ ap
    (λ z. summands_before ms (Adds m.operator m.place z y.0)) (sym (term_back (term_of m.term))))))
    (then2 f (onto (term_next le r q) l) (omega arith))

pub summands_as : {d : ℕ} {a b : List Item} {z : SumTree} {t : TermTree} {ts : SummandTrees} → z ≡ Total t ts
    → Passes d (Summands ∷ []) (ts, tt) a b → Passes d (Summands ∷ []) (further_terms z, tt) a b
summands_as {d} {a} {b} e p =
    let P : SumTree → Type 0 = λ z. Passes d (Summands ∷ []) (further_terms z, tt) a b in
    subst P (sym e) p

-- the same of relations
relation_next : {d : ℕ} {n p : List Item} → d ≤ 64 → Found (Word K.And) n p
    → Leads d (Relations ∷ []) (relation (Relations ∷ []))
    (λ t. (AndAlso (relation_tree t.0 t.1.0 t.1.1.0 t.1.1.1.0) t.1.1.1.1.0, tt)) n p
relation_next le w = pushes {s = Relations} (ap reply_relations w.first) w.rest (omega arith)

pub relations_pass : {d : ℕ} {n p m b : List Item} {rs : RelationTrees} (r : RelationTree) → d ≤ 64
    → Found (Word K.And) n p → Passes d (relation []) (relation_trees r) p m → Passes d (Relations ∷ []) (rs, tt)
    m b
    → Passes d (Relations ∷ []) (AndAlso r rs, tt) n b
relations_pass {d} {rs = rs} r le w x y =
    done (leads_as (λ _. ap (λ z. (AndAlso z rs, tt)) (relation_back r))
    (then1 {d = d} {d' = d} y (then4 {d = d} {d' = d} x (relation_next le w) (omega arith)) (omega arith)))

pub relations_fail : {d : ℕ} {n p : List Item} {e : Refusal} → d ≤ 64 → Found (Word K.And) n p
    → Fails d (relation []) p e → Fails d (Relations ∷ []) n e
relations_fail le w f = fail4 f (relation_next le w) (omega arith)

pub relations_fail_behind : {d : ℕ} {n p m : List Item} {e : Refusal} (r : RelationTree) → d ≤ 64
    → Found (Word K.And) n p → Passes d (relation []) (relation_trees r) p m → Fails d (Relations ∷ []) m e
    → Fails d (Relations ∷ []) n e
relations_fail_behind {d} r le w x y =
    fail1 {d = d} {d' = d} y (then4 {d = d} {d' = d} x (relation_next le w) (omega arith)) (omega arith)

pub relations_fail_later : {d : ℕ} {a n p : List Item} {e : Refusal}
    {g : Trees (Relations ∷ []) → Trees (Relations ∷ [])} → d ≤ 64 → Leads d (Relations ∷ []) (Relations ∷ []) g a n
    → Found (Word K.And) n p → Fails d (relation []) p e → Fails d (Relations ∷ []) a e
relations_fail_later le l w f = fail4 f (onto (relation_next le w) l) (omega arith)

pub relations_go_on : {d : ℕ} {a n p b : List Item} (rs all : List Relation) (r : Relation) → all ≡ rs ++ r ∷ []
    → d ≤ 64 → Leads d (Relations ∷ []) (Relations ∷ []) (λ y. (relations_before rs y.0, tt)) a n
    → Found (Word K.And) n p → Passes d (relation []) (relation_trees (relation_of r)) p b
    → Leads d (Relations ∷ []) (Relations ∷ []) (λ y. (relations_before all y.0, tt)) a b
relations_go_on rs all r e le l w f =
    leads_as
    (λ y. ap (λ z. (z, tt)) (sym (ap (λ l. relations_before l y.0) e ∙ relations_more rs r y.0 ∙ ap
    (λ z. relations_before rs (AndAlso z y.0)) (sym (relation_back (relation_of r))))))
    (then4 f (onto (relation_next le w) l) (omega arith))

pub relations_as : {d : ℕ} {a b : List Item} {z : ConjunctionTree} {r : RelationTree} {rs : RelationTrees}
    → z ≡ AllOf r rs → Passes d (Relations ∷ []) (rs, tt) a b → Passes d (Relations ∷ [])
    (further_relations z, tt) a b
relations_as {d} {a} {b} e p =
    let P : ConjunctionTree → Type 0 = λ z. Passes d (Relations ∷ []) (further_relations z, tt) a b in
    subst P (sym e) p

-- the same of conjunctions
conjunction_next : {d : ℕ} {n p : List Item} → d ≤ 64 → Found (Word K.Or) n p
    → Leads d (Conjunctions ∷ []) (conjunction (Conjunctions ∷ []))
    (λ t. (OrElse (conjunction_tree t.0 t.1.0 t.1.1.0 t.1.1.1.0 t.1.1.1.1.0) t.1.1.1.1.1.0, tt)) n p
conjunction_next le w = pushes {s = Conjunctions} (ap reply_conjunctions w.first) w.rest (omega arith)

pub conjunctions_pass : {d : ℕ} {n p m b : List Item} {cs : ConjunctionTrees} (c : ConjunctionTree) → d ≤ 64
    → Found (Word K.Or) n p → Passes d (conjunction []) (conjunction_trees c) p m
    → Passes d (Conjunctions ∷ []) (cs, tt) m b → Passes d (Conjunctions ∷ []) (OrElse c cs, tt) n b
conjunctions_pass {d} {cs = cs} c le w x y =
    done (leads_as (λ _. ap (λ z. (OrElse z cs, tt)) (conjunction_back c))
    (then1 {d = d} {d' = d} y (then5 {d = d} {d' = d} x (conjunction_next le w) (omega arith)) (omega arith)))

pub conjunctions_fail : {d : ℕ} {n p : List Item} {e : Refusal} → d ≤ 64 → Found (Word K.Or) n p
    → Fails d (conjunction []) p e → Fails d (Conjunctions ∷ []) n e
conjunctions_fail le w f = fail5 f (conjunction_next le w) (omega arith)

pub conjunctions_fail_behind : {d : ℕ} {n p m : List Item} {e : Refusal} (c : ConjunctionTree) → d ≤ 64
    → Found (Word K.Or) n p → Passes d (conjunction []) (conjunction_trees c) p m → Fails d (Conjunctions ∷ []) m e
    → Fails d (Conjunctions ∷ []) n e
conjunctions_fail_behind {d} c le w x y =
    fail1 {d = d} {d' = d} y (then5 {d = d} {d' = d} x (conjunction_next le w) (omega arith)) (omega arith)

pub conjunctions_fail_later : {d : ℕ} {a n p : List Item} {e : Refusal}
    {g : Trees (Conjunctions ∷ []) → Trees (Conjunctions ∷ [])} → d ≤ 64 → Leads d (Conjunctions ∷ [])
    (Conjunctions ∷ []) g a n
    → Found (Word K.Or) n p → Fails d (conjunction []) p e → Fails d (Conjunctions ∷ []) a e
conjunctions_fail_later le l w f = fail5 f (onto (conjunction_next le w) l) (omega arith)

pub conjunctions_go_on : {d : ℕ} {a n p b : List Item} (cs all : List Conjunction) (c : Conjunction)
    → all ≡ cs ++ c ∷ [] → d ≤ 64 → Leads d (Conjunctions ∷ []) (Conjunctions ∷ [])
    (λ y. (conjunctions_before cs y.0, tt)) a n → Found (Word K.Or) n p
    → Passes d (conjunction []) (conjunction_trees (conjunction_of c)) p b
    → Leads d (Conjunctions ∷ []) (Conjunctions ∷ []) (λ y. (conjunctions_before all y.0, tt)) a b
conjunctions_go_on cs all c e le l w f =
    leads_as
    (λ y. ap (λ z. (z, tt)) (sym (ap (λ l. conjunctions_before l y.0) e ∙ conjunctions_more cs c y.0 ∙ ap
    (λ z. conjunctions_before cs (OrElse z y.0)) (sym (conjunction_back (conjunction_of c))))))
    (then5 f (onto (conjunction_next le w) l) (omega arith))

pub conjunctions_as : {d : ℕ} {a b : List Item} {z : ExpressionTree} {c : ConjunctionTree} {cs : ConjunctionTrees}
    → z ≡ AnyOf c cs → Passes d (Conjunctions ∷ []) (cs, tt) a b → Passes d (Conjunctions ∷ [])
    (further_conjunctions z, tt) a b
conjunctions_as {d} {a} {b} e p =
    let P : ExpressionTree → Type 0 = λ z. Passes d (Conjunctions ∷ []) (further_conjunctions z, tt) a b in
    subst P (sym e) p
