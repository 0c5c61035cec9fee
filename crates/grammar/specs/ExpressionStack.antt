-- An expression as a stack of what is expected, and its tree.
use Rattle.std.specs.Prelude.{List, ◌∷◌}
use Rattle.syntax.specs.Tree.{ExpressionTree, AnyOf, ConjunctionTrees, ConjunctionTree, AllOf, RelationTrees}
use Rattle.syntax.specs.Tree.{RelationTree, Relates, ComparisonTree, SumTree, Total, SummandTrees, TermTree, Product}
use Rattle.syntax.specs.Tree.{MultiplierTrees, FactorTree}
use Rattle.grammar.specs.Symbols.{Symbol, AFactor, Multipliers, Summands, AComparison, Relations, Conjunctions}

-- an expression is expected as a factor and what may follow it at each level
abbrev pub term : List Symbol → List Symbol
term σ = AFactor ∷ Multipliers ∷ σ

-- a sum: a term and further ones
abbrev pub sum : List Symbol → List Symbol
sum σ = term (Summands ∷ σ)

-- a relation: a sum and what it is compared with
abbrev pub relation : List Symbol → List Symbol
relation σ = sum (AComparison ∷ σ)

-- a conjunction: a relation and further ones
abbrev pub conjunction : List Symbol → List Symbol
conjunction σ = relation (Relations ∷ σ)

-- an expression: a conjunction and further ones
abbrev pub expression : List Symbol → List Symbol
expression σ = conjunction (Conjunctions ∷ σ)

-- what may follow the factor that an expression begins with
abbrev pub expression_rest : List Symbol → List Symbol
expression_rest σ = Multipliers ∷ Summands ∷ AComparison ∷ Relations ∷ Conjunctions ∷ σ

-- the tree of a term, of its factor and what follows it
abbrev pub term_tree : FactorTree → MultiplierTrees → TermTree
term_tree f fs = Product f fs

-- the tree of a sum, of the same and further terms
abbrev pub sum_tree : FactorTree → MultiplierTrees → SummandTrees → SumTree
sum_tree f fs ts = Total (Product f fs) ts

-- the tree of a relation, of the same and a comparison
abbrev pub relation_tree : FactorTree → MultiplierTrees → SummandTrees → ComparisonTree → RelationTree
relation_tree f fs ts c = Relates (Total (Product f fs) ts) c

-- the tree of a conjunction, of the same and further relations
abbrev pub conjunction_tree : FactorTree → MultiplierTrees → SummandTrees → ComparisonTree → RelationTrees
    → ConjunctionTree
conjunction_tree f fs ts c rs = AllOf (Relates (Total (Product f fs) ts) c) rs

-- the tree of an expression, of the same and further conjunctions
abbrev pub expression_tree : FactorTree → MultiplierTrees → SummandTrees → ComparisonTree → RelationTrees
    → ConjunctionTrees → ExpressionTree
expression_tree f fs ts c rs cs = AnyOf (AllOf (Relates (Total (Product f fs) ts) c) rs) cs

-- what an expression is made of, with what is behind it
abbrev pub ExpressionParts : Type 0 → Type 0
ExpressionParts A =
    FactorTree × (MultiplierTrees × (SummandTrees × (ComparisonTree × (RelationTrees × (ConjunctionTrees × A)))))

-- the expression there
abbrev pub expression_in : {A : Type 0} → ExpressionParts A → ExpressionTree
expression_in t = expression_tree t.0 t.1.0 t.1.1.0 t.1.1.1.0 t.1.1.1.1.0 t.1.1.1.1.1.0

-- what is behind it
abbrev pub behind_expression : {A : Type 0} → ExpressionParts A → A
behind_expression t = t.1.1.1.1.1.1

-- the same of an expression whose factor was begun
abbrev pub RestParts : Type 0 → Type 0
RestParts A = MultiplierTrees × (SummandTrees × (ComparisonTree × (RelationTrees × (ConjunctionTrees × A))))

-- the expression of a factor and what follows it
abbrev pub expression_from : {A : Type 0} → FactorTree → RestParts A → ExpressionTree
expression_from f t = expression_tree f t.0 t.1.0 t.1.1.0 t.1.1.1.0 t.1.1.1.1.0

-- what is behind that
abbrev pub behind_rest : {A : Type 0} → RestParts A → A
behind_rest t = t.1.1.1.1.1
