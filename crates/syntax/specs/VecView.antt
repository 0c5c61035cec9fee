-- What the elements of a `Vec` say, as a chain that ends in others.
use Rattle.std.specs.Prelude.{List, [], ◌∷◌, Option, Some, None, Vec}
use Rattle.std.specs.Global.{Global}
use Rattle.syntax.specs.declared.expression.Conjunction.{Conjunction}
use Rattle.syntax.specs.declared.expression.Relation.{Relation}
use Rattle.syntax.specs.declared.expression.Summand.{Summand}
use Rattle.syntax.specs.declared.expression.Multiplier.{Multiplier}
use Rattle.syntax.specs.declared.statement.Statement.{Statement}
use Rattle.syntax.specs.Tree.{ConjunctionTrees, NoConjunctions, OrElse, RelationTrees, NoRelations, AndAlso}
use Rattle.syntax.specs.Tree.{SummandTrees, NoSummands, Adds, MultiplierTrees, NoMultipliers, Scales, StatementTrees}
use Rattle.syntax.specs.Tree.{NoStatements, Then, PartTree, NoPart, Part}
use Rattle.syntax.specs.ExpressionView.{conjunction_of, relation_of, term_of, factor_of}
use Rattle.syntax.specs.StatementView.{statement_of}

-- the same of the elements of a `Vec`, before others
abbrev pub conjunctions_before : List Conjunction → ConjunctionTrees → ConjunctionTrees
conjunctions_before [] later = later
conjunctions_before (c ∷ cs) later = OrElse (conjunction_of c) (conjunctions_before cs later)

-- conjunctions, with nothing behind them
abbrev pub conjunctions_in : List Conjunction → ConjunctionTrees
conjunctions_in cs = conjunctions_before cs NoConjunctions

-- relations, before others
abbrev pub relations_before : List Relation → RelationTrees → RelationTrees
relations_before [] later = later
relations_before (r ∷ rs) later = AndAlso (relation_of r) (relations_before rs later)

-- relations, with nothing behind them
abbrev pub relations_in : List Relation → RelationTrees
relations_in rs = relations_before rs NoRelations

-- summands, before others
abbrev pub summands_before : List Summand → SummandTrees → SummandTrees
summands_before [] later = later
summands_before (s ∷ ss) later = Adds s.operator s.place (term_of s.term) (summands_before ss later)

-- summands, with nothing behind them
abbrev pub summands_in : List Summand → SummandTrees
summands_in ss = summands_before ss NoSummands

-- multipliers, before others
abbrev pub multipliers_before : List Multiplier → MultiplierTrees → MultiplierTrees
multipliers_before [] later = later
multipliers_before (m ∷ ms) later = Scales m.operator (factor_of m.factor) (multipliers_before ms later)

-- multipliers, with nothing behind them
abbrev pub multipliers_in : List Multiplier → MultiplierTrees
multipliers_in ms = multipliers_before ms NoMultipliers

-- statements, before others
abbrev pub statements_before : List Statement → StatementTrees → StatementTrees
statements_before [] later = later
statements_before (s ∷ ss) later = Then (statement_of s) (statements_before ss later)

-- statements, with nothing behind them
abbrev pub statements_in : List Statement → StatementTrees
statements_in ss = statements_before ss NoStatements

-- statements that may be left out
abbrev pub part_in : Option (Vec Statement Global) → PartTree
part_in None = NoPart
part_in (Some v) = Part (statements_in v.items)
