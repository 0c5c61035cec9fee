-- What the operators and the beginnings of factors are, as the lexemes say.
use Rattle.std.specs.Prelude.{◌≡◌, ℕ, List, Option, Some, None}
use Rattle.scanner.specs.declared.token.Place.{Place}
use Rattle.scanner.specs.declared.token.Sign.TheVariants as S
use Rattle.scanner.specs.declared.token.Keyword.TheVariants as K
use Rattle.syntax.specs.declared.expression.Comparator.{Comparator}
use Rattle.syntax.specs.declared.expression.SumOperator.{SumOperator}
use Rattle.syntax.specs.declared.expression.ProductOperator.{ProductOperator}
use Rattle.syntax.specs.Lexeme.{Lexeme, WordAt, MarkAt, Named, Numbered}
use Rattle.syntax.specs.Spelling.{bool_lexeme}
use Rattle.syntax.specs.Tree.{NoMultipliers, MultiplierTrees, NoSummands, SummandTrees, NoComparison, ComparisonTree}
use Rattle.syntax.specs.Tree.{NoRelations, NoConjunctions}
use Rattle.grammar.specs.Machine.{Reply, Skip, NoFactor, scales, adds, compares, factor_begin, reply_comparison}
use Rattle.grammar.specs.Machine.{reply_relations, reply_conjunctions}
use Rattle.token_cursor.specs.declared.operators.FactorStart.{FactorStart}
use Rattle.token_cursor.specs.declared.operators.FactorStart.TheVariants.{Number, Truth, Name, Paren, Minus, Not}

-- what stands where a term may go on, where a sum may, and where a comparison may
abbrev pub product_reply : Option ProductOperator → Reply MultiplierTrees
product_reply (Some op) = scales op
product_reply None = Skip NoMultipliers

-- the same of a sum, where the sign has this place
abbrev pub sum_signed : Option SumOperator → Place → Reply SummandTrees
sum_signed (Some op) place = adds op place
sum_signed None place = Skip NoSummands

-- the same of a sum, with the place of the sign
abbrev pub sum_reply : Option (SumOperator × Place) → Reply SummandTrees
sum_reply (Some p) = adds p.0 p.1
sum_reply None = Skip NoSummands

-- the same of a comparison
abbrev pub comparison_reply : Option Comparator → Reply ComparisonTree
comparison_reply (Some op) = compares op
comparison_reply None = Skip NoComparison

-- the lexeme that a factor starts with
abbrev pub start_lexeme : FactorStart → List ℕ → Place → Lexeme
start_lexeme (Number value) text place = Numbered (record { value = value; place = place })
start_lexeme (Truth value) text place = bool_lexeme value place
start_lexeme Name text place = Named (record { text = text; place = place })
start_lexeme Paren text place = MarkAt S.OpenParen place
start_lexeme Minus text place = MarkAt S.Minus place
start_lexeme Not text place = WordAt K.Not place

-- a factor starts so with this lexeme of a text at a place, or none does
abbrev pub Starts : Option FactorStart → List ℕ → Place → Lexeme → Type 0
Starts (Some s) text place k = k ≡ start_lexeme s text place
Starts None text place k = factor_begin k ≡ NoFactor

-- no comparison and no further relation or conjunction begins with this lexeme
pub record EndsExpression (k : Lexeme) : Type 0 where
  pub compared : reply_comparison k ≡ Skip NoComparison
  pub relations : reply_relations k ≡ Skip NoRelations
  pub conjunctions : reply_conjunctions k ≡ Skip NoConjunctions
