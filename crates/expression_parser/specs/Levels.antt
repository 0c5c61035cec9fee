-- The trees of the symbols that each level of an expression is expected as.
use Rattle.syntax.specs.Tree.{ExpressionTree, AnyOf, ConjunctionTree, AllOf, RelationTree, Relates, SumTree, Total}
use Rattle.syntax.specs.Tree.{TermTree, Product, FactorTree, MultiplierTrees, SummandTrees, ComparisonTree}
use Rattle.syntax.specs.Tree.{RelationTrees, ConjunctionTrees, CalleeTree}
use Rattle.std.specs.Prelude.{[], ◌∷◌}
use Rattle.scanner.specs.declared.token.Sign.{Sign}
use Rattle.grammar.specs.Machine.{Trees, AMark, term, sum, relation, conjunction, expression, callee}

-- of a term
abbrev pub term_trees : TermTree → Trees (term [])
term_trees (Product f fs) = (f, (fs, tt))

-- of a sum
abbrev pub sum_trees : SumTree → Trees (sum [])
sum_trees (Total t ts) = ((term_trees t).0, ((term_trees t).1.0, (ts, tt)))

-- of a relation
abbrev pub relation_trees : RelationTree → Trees (relation [])
relation_trees (Relates s c) = ((sum_trees s).0, ((sum_trees s).1.0, ((sum_trees s).1.1.0, (c, tt))))

-- of a conjunction
abbrev pub conjunction_trees : ConjunctionTree → Trees (conjunction [])
conjunction_trees (AllOf r rs) = (
  (relation_trees r).0,
  (
    (relation_trees r).1.0,
    ((relation_trees r).1.1.0, ((relation_trees r).1.1.1.0, (rs, tt))),
  ),
)

-- of an expression
abbrev pub expression_trees : ExpressionTree → Trees (expression [])
expression_trees (AnyOf c cs) = (
  (conjunction_trees c).0,
  (
    (conjunction_trees c).1.0,
    ((conjunction_trees c).1.1.0, ((conjunction_trees c).1.1.1.0, ((conjunction_trees c).1.1.1.1.0, (cs, tt)))),
  ),
)

-- what stands first at each level, and what is behind it
abbrev pub first_factor : TermTree → FactorTree
first_factor (Product f fs) = f

-- the factors behind the first
abbrev pub further_factors : TermTree → MultiplierTrees
further_factors (Product f fs) = fs

-- the first term of a sum
abbrev pub first_term : SumTree → TermTree
first_term (Total t ts) = t

-- the terms behind it
abbrev pub further_terms : SumTree → SummandTrees
further_terms (Total t ts) = ts

-- the left side of a relation
abbrev pub left_sum : RelationTree → SumTree
left_sum (Relates s c) = s

-- what it is compared with
abbrev pub comparison_part : RelationTree → ComparisonTree
comparison_part (Relates s c) = c

-- the first relation of a conjunction
abbrev pub first_relation : ConjunctionTree → RelationTree
first_relation (AllOf r rs) = r

-- the relations behind it
abbrev pub further_relations : ConjunctionTree → RelationTrees
further_relations (AllOf r rs) = rs

-- the first conjunction of an expression
abbrev pub first_conjunction : ExpressionTree → ConjunctionTree
first_conjunction (AnyOf c cs) = c

-- the conjunctions behind it
abbrev pub further_conjunctions : ExpressionTree → ConjunctionTrees
further_conjunctions (AnyOf c cs) = cs

-- an expression, and a sign behind it
abbrev pub enclosed_trees : (s : Sign) → ExpressionTree → Trees (expression (AMark s ∷ []))
enclosed_trees s e = let x = expression_trees e in
    (x.0, (x.1.0, (x.1.1.0, (x.1.1.1.0, (x.1.1.1.1.0, (x.1.1.1.1.1.0, (tt, tt)))))))

-- a callee
abbrev pub callee_trees : CalleeTree → Trees (callee [])
callee_trees c = (c.name, (c.dotted, (c.open_place, (c.arguments, (tt, tt)))))
