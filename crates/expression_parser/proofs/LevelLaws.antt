-- The trees of each level, and their parts.
use Rattle.std.proofs.Common.{◌≡◌, refl}
use Rattle.scanner.specs.declared.token.Sign.{Sign}
use Rattle.syntax.specs.Tree.{ExpressionTree, AnyOf, ConjunctionTree, AllOf, RelationTree, Relates, SumTree, Total}
use Rattle.syntax.specs.Tree.{TermTree, Product}
use Rattle.grammar.specs.Machine.{term_tree, sum_tree, relation_tree, conjunction_tree, expression_in}
use Rattle.expression_parser.specs.Levels.{term_trees, sum_trees, relation_trees, conjunction_trees, expression_trees}
use Rattle.expression_parser.specs.Levels.{enclosed_trees}

pub term_back : (t : TermTree) → term_tree (term_trees t).0 (term_trees t).1.0 ≡ t
term_back (Product f fs) = refl

pub sum_back : (s : SumTree) → sum_tree (sum_trees s).0 (sum_trees s).1.0 (sum_trees s).1.1.0 ≡ s
sum_back (Total (Product f fs) ts) = refl

pub relation_back : (r : RelationTree) → relation_tree (relation_trees r).0 (relation_trees r).1.0
    (relation_trees r).1.1.0 (relation_trees r).1.1.1.0 ≡ r
relation_back (Relates (Total (Product f fs) ts) c) = refl

pub conjunction_back : (c : ConjunctionTree) → conjunction_tree (conjunction_trees c).0 (conjunction_trees c).1.0
    (conjunction_trees c).1.1.0 (conjunction_trees c).1.1.1.0 (conjunction_trees c).1.1.1.1.0 ≡ c
conjunction_back (AllOf (Relates (Total (Product f fs) ts) c) rs) = refl

pub expression_back : (e : ExpressionTree) → expression_in (expression_trees e) ≡ e
expression_back (AnyOf (AllOf (Relates (Total (Product f fs) ts) c) rs) cs) = refl

pub enclosed_back : (s : Sign) (e : ExpressionTree) → expression_in (enclosed_trees s e) ≡ e
enclosed_back s (AnyOf (AllOf (Relates (Total (Product f fs) ts) c) rs) cs) = refl
