-- What is expected of tokens and of expressions, at each lexeme.
use Rattle.std.specs.Prelude.{true, false, [], ◌∷◌, nat_eq, if◌then◌else◌}
use Rattle.scanner.specs.declared.token.Keyword.{Keyword}
use Rattle.scanner.specs.declared.token.Keyword.TheVariants as K
use Rattle.scanner.specs.declared.token.Sign.{Sign}
use Rattle.scanner.specs.declared.token.Sign.TheVariants as S
use Rattle.scanner.specs.declared.token.Place.{Place}
use Rattle.syntax.specs.declared.leaf.Number.{Number}
use Rattle.syntax.specs.declared.expression.Comparator.{Comparator}
use Rattle.syntax.specs.declared.expression.Comparator.TheVariants as C
use Rattle.syntax.specs.declared.expression.SumOperator.{SumOperator}
use Rattle.syntax.specs.declared.expression.SumOperator.TheVariants as O
use Rattle.syntax.specs.declared.expression.ProductOperator.{ProductOperator}
use Rattle.syntax.specs.declared.expression.ProductOperator.TheVariants as P
use Rattle.syntax.specs.Lexeme.{NameTree, Lexeme, Word, WordAt, Mark, MarkAt, Named, Numbered}
use Rattle.syntax.specs.Tree.{ConjunctionTrees, NoConjunctions, OrElse, RelationTrees, NoRelations, AndAlso}
use Rattle.syntax.specs.Tree.{ComparisonTree, NoComparison, Compares, SummandTrees, NoSummands, Adds, MultiplierTrees}
use Rattle.syntax.specs.Tree.{NoMultipliers, Scales, FactorTree, Constant, Truthful, Reads, Group, Minus, Not}
use Rattle.syntax.specs.Tree.{IndexTree, NoIndex, At}
use Rattle.grammar.specs.Symbols.{AMark, AFactor, AnIndex, Multipliers, Summands, Relations, Conjunctions, Closed}
use Rattle.grammar.specs.Symbols.{Reply, Push, Skip, Reject, Beginning, Begins, NoFactor}
use Rattle.grammar.specs.Codes.{word_code, sign_code}
use Rattle.grammar.specs.ExpressionStack.{term, sum, relation, conjunction, expression, term_tree, sum_tree}
use Rattle.grammar.specs.ExpressionStack.{relation_tree, conjunction_tree, expression_in}

-- a keyword or a sign
abbrev pub reply_word : Keyword → Lexeme → Reply (Unit {0})
reply_word w (Word v) = if nat_eq (word_code w) (word_code v) then Push [] (λ _. tt) else Reject
reply_word w _ = Reject

-- a sign
abbrev pub reply_mark : Sign → Lexeme → Reply (Unit {0})
reply_mark s (Mark r) = if nat_eq (sign_code s) (sign_code r) then Push [] (λ _. tt) else Reject
reply_mark s _ = Reject

-- a keyword with its place
abbrev pub reply_word_at : Keyword → Lexeme → Reply Place
reply_word_at w (WordAt v place) = if nat_eq (word_code w) (word_code v) then Push [] (λ _. place) else Reject
reply_word_at w _ = Reject

-- the parenthesis before arguments or parameters
abbrev pub reply_opening : Lexeme → Reply Place
reply_opening (MarkAt S.OpenParen place) = Push [] (λ _. place)
reply_opening _ = Reject

-- a name
abbrev pub reply_name : Lexeme → Reply NameTree
reply_name (Named name) = Push [] (λ _. name)
reply_name _ = Reject

-- a number
abbrev pub reply_number : Lexeme → Reply Number
reply_number (Numbered n) = Push [] (λ _. n)
reply_number _ = Reject

-- what a factor goes on with behind its first lexeme
abbrev pub factor_begin : Lexeme → Beginning
factor_begin (Numbered n) = Begins [] (λ _. Constant n)
factor_begin (WordAt K.True place) = Begins [] (λ _. Truthful (record { value = true; place = place }))
factor_begin (WordAt K.False place) = Begins [] (λ _. Truthful (record { value = false; place = place }))
factor_begin (Named name) = Begins (AnIndex ∷ []) (λ t. Reads name t.0)
factor_begin (MarkAt S.OpenParen place) = Begins (expression (AMark S.CloseParen ∷ Closed ∷ []))
    (λ t. Group place (expression_in t))
factor_begin (MarkAt S.Minus place) = Begins (AFactor ∷ Closed ∷ []) (λ t. Minus place t.0)
factor_begin (WordAt K.Not place) = Begins (AFactor ∷ Closed ∷ []) (λ t. Not place t.0)
factor_begin _ = NoFactor

-- a factor that begins so
abbrev pub factor_reply : Beginning → Reply FactorTree
factor_reply (Begins ρ f) = Push ρ f
factor_reply NoFactor = Reject

-- a factor
abbrev pub reply_factor : Lexeme → Reply FactorTree
reply_factor k = factor_reply (factor_begin k)

-- an index in brackets, if there is one
abbrev pub reply_index : Lexeme → Reply IndexTree
reply_index (Mark S.OpenBracket) = Push (expression (AMark S.CloseBracket ∷ Closed ∷ [])) (λ t. At (expression_in t))
reply_index _ = Skip NoIndex

-- a further factor behind an operator
abbrev pub scales : ProductOperator → Reply MultiplierTrees
scales op = Push (AFactor ∷ Multipliers ∷ []) (λ t. Scales op t.0 t.1.0)

-- further factors
abbrev pub reply_multipliers : Lexeme → Reply MultiplierTrees
reply_multipliers (Mark S.Times) = scales P.Times
reply_multipliers (Mark S.Divide) = scales P.Divide
reply_multipliers (Word K.Mod) = scales P.Mod
reply_multipliers _ = Skip NoMultipliers

-- a further term behind a sign
abbrev pub adds : SumOperator → Place → Reply SummandTrees
adds op place = Push (term (Summands ∷ [])) (λ t. Adds op place (term_tree t.0 t.1.0) t.1.1.0)

-- further terms
abbrev pub reply_summands : Lexeme → Reply SummandTrees
reply_summands (MarkAt S.Plus place) = adds O.Plus place
reply_summands (MarkAt S.Minus place) = adds O.Minus place
reply_summands _ = Skip NoSummands

-- what a sum is compared with
abbrev pub compares : Comparator → Reply ComparisonTree
compares op = Push (sum []) (λ t. Compares op (sum_tree t.0 t.1.0 t.1.1.0))

-- a comparison, if there is one
abbrev pub reply_comparison : Lexeme → Reply ComparisonTree
reply_comparison (Mark S.Equal) = compares C.Equal
reply_comparison (Mark S.NotEqual) = compares C.NotEqual
reply_comparison (Mark S.Less) = compares C.Less
reply_comparison (Mark S.LessEqual) = compares C.LessEqual
reply_comparison (Mark S.Greater) = compares C.Greater
reply_comparison (Mark S.GreaterEqual) = compares C.GreaterEqual
reply_comparison _ = Skip NoComparison

-- further relations
abbrev pub reply_relations : Lexeme → Reply RelationTrees
reply_relations (Word K.And) = Push (relation (Relations ∷ []))
    (λ t. AndAlso (relation_tree t.0 t.1.0 t.1.1.0 t.1.1.1.0) t.1.1.1.1.0)
reply_relations _ = Skip NoRelations

-- further conjunctions
abbrev pub reply_conjunctions : Lexeme → Reply ConjunctionTrees
reply_conjunctions (Word K.Or) = Push (conjunction (Conjunctions ∷ []))
    (λ t. OrElse (conjunction_tree t.0 t.1.0 t.1.1.0 t.1.1.1.0 t.1.1.1.1.0) t.1.1.1.1.1.0)
reply_conjunctions _ = Skip NoConjunctions
