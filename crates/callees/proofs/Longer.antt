-- What a tree is spelled as is no shorter than what follows it.
use Rattle.std.proofs.Common.{◌≤◌, List, [], ◌∷◌, length, Option, Some, None, arith}
use Rattle.syntax.specs.Lexeme.{NameTree, Lexeme, Word, Mark, MarkAt, Named}
use Rattle.scanner.specs.declared.token.Keyword.TheVariants as K
use Rattle.scanner.specs.declared.token.Sign.TheVariants as S
use Rattle.syntax.specs.Tree.{AnyOf, ConjunctionTrees, NoConjunctions, OrElse, ConjunctionTree, AllOf, RelationTrees}
use Rattle.syntax.specs.Tree.{NoRelations, AndAlso, RelationTree, Relates, ComparisonTree, NoComparison, Compares}
use Rattle.syntax.specs.Tree.{SumTree, Total, SummandTrees, NoSummands, Adds, TermTree, Product, MultiplierTrees}
use Rattle.syntax.specs.Tree.{NoMultipliers, Scales, FactorTree, Constant, Truthful, Reads, Group, Minus, Not}
use Rattle.syntax.specs.Tree.{IndexTree, NoIndex, At, ExpressionTree, CalleeTree, StatementTree, Assign, If, While}
use Rattle.syntax.specs.Tree.{Call}
use Rattle.syntax.specs.Tree.{Fork, Join, Return, Wait, Notify, Broadcast, Print, Abort, StatementTrees, NoStatements}
use Rattle.syntax.specs.Tree.{Then, PartTree, NoPart, Part}
use Rattle.syntax.specs.Spelling.{expression_text, conjunctions_text, conjunction_text, relations_text, relation_text}
use Rattle.syntax.specs.Spelling.{comparison_text, sum_text, summands_text, term_text, multipliers_text, factor_text}
use Rattle.syntax.specs.Spelling.{index_text, more_arguments_text, arguments_text, dotted_text, callee_text, into_text}
use Rattle.syntax.specs.Spelling.{value_text, statement_text, statements_text, else_text, aborted_text}

mutual
  longer_expression : (e : ExpressionTree) (ks : List Lexeme) → length ks ≤ length (expression_text e ks)
  longer_expression (AnyOf c cs) ks =
      omega (arith, longer_conjunction c (conjunctions_text cs ks), longer_conjunctions cs ks)

  longer_conjunctions : (cs : ConjunctionTrees) (ks : List Lexeme) → length ks ≤ length (conjunctions_text cs ks)
  longer_conjunctions NoConjunctions ks = omega arith
  longer_conjunctions (OrElse c cs) ks =
      omega (arith, longer_conjunction c (conjunctions_text cs ks), longer_conjunctions cs ks)

  longer_conjunction : (c : ConjunctionTree) (ks : List Lexeme) → length ks ≤ length (conjunction_text c ks)
  longer_conjunction (AllOf r rs) ks = omega (arith, longer_relation r (relations_text rs ks), longer_relations rs ks)

  longer_relations : (rs : RelationTrees) (ks : List Lexeme) → length ks ≤ length (relations_text rs ks)
  longer_relations NoRelations ks = omega arith
  longer_relations (AndAlso r rs) ks = omega (arith, longer_relation r (relations_text rs ks), longer_relations rs ks)

  longer_relation : (r : RelationTree) (ks : List Lexeme) → length ks ≤ length (relation_text r ks)
  longer_relation (Relates s c) ks = omega (arith, longer_sum s (comparison_text c ks), longer_comparison c ks)

  longer_comparison : (c : ComparisonTree) (ks : List Lexeme) → length ks ≤ length (comparison_text c ks)
  longer_comparison NoComparison ks = omega arith
  longer_comparison (Compares op s) ks = omega (arith, longer_sum s ks)

  longer_sum : (s : SumTree) (ks : List Lexeme) → length ks ≤ length (sum_text s ks)
  longer_sum (Total t ts) ks = omega (arith, longer_term t (summands_text ts ks), longer_summands ts ks)

  longer_summands : (ts : SummandTrees) (ks : List Lexeme) → length ks ≤ length (summands_text ts ks)
  longer_summands NoSummands ks = omega arith
  longer_summands (Adds op place t ts) ks =
      omega (arith, longer_term t (summands_text ts ks), longer_summands ts ks)

  longer_term : (t : TermTree) (ks : List Lexeme) → length ks ≤ length (term_text t ks)
  longer_term (Product f fs) ks = omega (arith, longer_factor f (multipliers_text fs ks), longer_multipliers fs ks)

  longer_multipliers : (fs : MultiplierTrees) (ks : List Lexeme) → length ks ≤ length (multipliers_text fs ks)
  longer_multipliers NoMultipliers ks = omega arith
  longer_multipliers (Scales op f fs) ks =
      omega (arith, longer_factor f (multipliers_text fs ks), longer_multipliers fs ks)

  longer_factor : (f : FactorTree) (ks : List Lexeme) → length ks ≤ length (factor_text f ks)
  longer_factor (Constant n) ks = omega arith
  longer_factor (Truthful t) ks = omega arith
  longer_factor (Reads name index) ks = omega (arith, longer_index index ks)
  longer_factor (Group place e) ks = omega (arith, longer_expression e (Mark S.CloseParen ∷ ks))
  longer_factor (Minus place f) ks = omega (arith, longer_factor f ks)
  longer_factor (Not place f) ks = omega (arith, longer_factor f ks)

  longer_index : (i : IndexTree) (ks : List Lexeme) → length ks ≤ length (index_text i ks)
  longer_index NoIndex ks = omega arith
  longer_index (At e) ks = omega (arith, longer_expression e (Mark S.CloseBracket ∷ ks))

longer_more : (es : List ExpressionTree) (ks : List Lexeme) → length ks ≤ length (more_arguments_text es ks)
longer_more [] ks = omega arith
longer_more (e ∷ es) ks = omega (arith, longer_expression e (more_arguments_text es ks), longer_more es ks)

longer_arguments : (es : List ExpressionTree) (ks : List Lexeme) → length ks ≤ length (arguments_text es ks)
longer_arguments [] ks = omega arith
longer_arguments (e ∷ es) ks = omega (arith, longer_expression e (more_arguments_text es ks), longer_more es ks)

longer_dotted : (o : Option NameTree) (ks : List Lexeme) → length ks ≤ length (dotted_text o ks)
longer_dotted None ks = omega arith
longer_dotted (Some name) ks = omega arith

longer_callee : (c : CalleeTree) (ks : List Lexeme) → length ks ≤ length (callee_text c ks)
longer_callee c ks = omega (
  arith,
  longer_dotted c.dotted (MarkAt S.OpenParen c.open_place ∷ arguments_text c.arguments (Mark S.CloseParen ∷ ks)),
  longer_arguments c.arguments (Mark S.CloseParen ∷ ks),
)

longer_into : (o : Option NameTree) (ks : List Lexeme) → length ks ≤ length (into_text o ks)
longer_into None ks = omega arith
longer_into (Some name) ks = omega arith

longer_value : (o : Option ExpressionTree) (ks : List Lexeme) → length ks ≤ length (value_text o ks)
longer_value None ks = omega arith
longer_value (Some e) ks = longer_expression e ks

mutual
  longer_statement : (s : StatementTree) (ks : List Lexeme) → length ks ≤ length (statement_text s ks)
  longer_statement (Assign v e) ks =
      let after = expression_text e (Mark S.Semicolon ∷ ks) in
      omega (arith, longer_index v.index (Mark S.Assign ∷ after), longer_expression e (Mark S.Semicolon ∷ ks))
  longer_statement (If place e ss part) ks =
      let after = Word K.Endif ∷ Mark S.Semicolon ∷ ks in
      omega (
        arith,
        longer_expression e (Word K.Then ∷ statements_text ss (else_text part after)),
        longer_statements ss (else_text part after),
        longer_else part after,
      )
  longer_statement (While place e ss) ks =
      let after = Word K.Endloop ∷ Mark S.Semicolon ∷ ks in
      omega (arith, longer_expression e (Word K.Do ∷ statements_text ss after), longer_statements ss after)
  longer_statement (Call place c into) ks =
      omega (arith, longer_callee c (into_text into (Mark S.Semicolon ∷ ks)), longer_into into (Mark S.Semicolon ∷ ks))
  longer_statement (Fork place c into) ks =
      omega (arith, longer_callee c (Word K.Into ∷ Named into ∷ Mark S.Semicolon ∷ ks))
  longer_statement (Join place e into part) ks =
      let after = aborted_text part (Mark S.Semicolon ∷ ks) in
      omega (
        arith,
        longer_expression e (into_text into after),
        longer_into into after,
        longer_aborted part (Mark S.Semicolon ∷ ks),
      )
  longer_statement (Return place value) ks = omega (arith, longer_value value (Mark S.Semicolon ∷ ks))
  longer_statement (Wait place name) ks = omega arith
  longer_statement (Notify place name) ks = omega arith
  longer_statement (Broadcast place name) ks = omega arith
  longer_statement (Print place e) ks = omega (arith, longer_expression e (Mark S.Semicolon ∷ ks))
  longer_statement (Abort place) ks = omega arith

  pub longer_statements : (ss : StatementTrees) (ks : List Lexeme) → length ks ≤ length (statements_text ss ks)
  longer_statements NoStatements ks = omega arith
  longer_statements (Then s ss) ks = omega (arith, longer_statement s (statements_text ss ks), longer_statements ss ks)

  longer_else : (p : PartTree) (ks : List Lexeme) → length ks ≤ length (else_text p ks)
  longer_else NoPart ks = omega arith
  longer_else (Part ss) ks = omega (arith, longer_statements ss ks)

  longer_aborted : (p : PartTree) (ks : List Lexeme) → length ks ≤ length (aborted_text p ks)
  longer_aborted NoPart ks = omega arith
  longer_aborted (Part ss) ks = omega (arith, longer_statements ss (Word K.End ∷ ks))
