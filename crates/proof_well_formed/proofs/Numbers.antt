-- The numbers of a statement are those of its text.
use Rattle.std.proofs.Common.{◌≤◌, List, [], ◌∷◌, Option, Some, None}
use Rattle.std.specs.Prelude.{⊤}
use Rattle.scanner.specs.Limits.{most_number}
use Rattle.syntax.specs.Lexeme.{Lexeme, NameTree, Word, Mark, MarkAt, Named, Numbered}
use Rattle.scanner.specs.declared.token.Keyword.TheVariants as K
use Rattle.scanner.specs.declared.token.Sign.TheVariants as S
use Rattle.syntax.specs.Tree.{ExpressionTree, AnyOf, ConjunctionTrees, NoConjunctions, OrElse, ConjunctionTree, AllOf}
use Rattle.syntax.specs.Tree.{RelationTrees, NoRelations, AndAlso, RelationTree, Relates, ComparisonTree}
use Rattle.syntax.specs.Tree.{NoComparison}
use Rattle.syntax.specs.Tree.{Compares, SumTree, Total, SummandTrees, NoSummands, Adds, TermTree, Product}
use Rattle.syntax.specs.Tree.{MultiplierTrees, NoMultipliers, Scales, FactorTree, Constant, Truthful, Reads, Group}
use Rattle.syntax.specs.Tree.{Minus, Not, IndexTree, NoIndex, At, CalleeTree, StatementTree, Assign, If, While, Call}
use Rattle.syntax.specs.Tree.{Fork, Join, Return, Wait, Notify, Broadcast, Print, Abort, StatementTrees, NoStatements}
use Rattle.syntax.specs.Tree.{Then, PartTree, NoPart, Part}
use Rattle.syntax.specs.Spelling.{expression_text}
use Rattle.syntax.specs.Spelling.{conjunctions_text, conjunction_text, relations_text, relation_text, comparison_text}
use Rattle.syntax.specs.Spelling.{sum_text, summands_text, term_text, multipliers_text, factor_text, index_text}
use Rattle.syntax.specs.Spelling.{more_arguments_text, arguments_text, dotted_text, callee_text, into_text, value_text}
use Rattle.syntax.specs.Spelling.{statement_text, statements_text, else_text, aborted_text}
use Rattle.proof_well_formed.proofs.Small.{SmallExpression, SmallConjunctions, SmallConjunction, SmallRelations}
use Rattle.proof_well_formed.proofs.Small.{SmallRelation, SmallComparison, SmallSum, SmallSummands, SmallTerm}
use Rattle.proof_well_formed.proofs.Small.{SmallMultipliers, SmallFactor, SmallIndex, SmallArguments, SmallValue}
use Rattle.proof_well_formed.proofs.Small.{SmallStatement, SmallStatements, SmallPart}

abbrev pub SmallLexeme : Lexeme → Type 0
SmallLexeme (Numbered n) = n.value ≤ most_number
SmallLexeme _ = ⊤

abbrev pub SmallText : List Lexeme → Type 0
SmallText [] = ⊤
SmallText (k ∷ ks) = SmallLexeme k × SmallText ks

mutual
  pub expression_small : (e : ExpressionTree) (ks : List Lexeme) → SmallText (expression_text e ks)
      → SmallExpression e × SmallText ks
  expression_small (AnyOf c cs) ks h = let p = conjunction_small c (conjunctions_text cs ks) h in
      let q = conjunctions_small cs ks p.1 in ((p.0, q.0), q.1)

  conjunctions_small : (cs : ConjunctionTrees) (ks : List Lexeme) → SmallText (conjunctions_text cs ks)
      → SmallConjunctions cs × SmallText ks
  conjunctions_small NoConjunctions ks h = (tt, h)
  conjunctions_small (OrElse c cs) ks h = let p = conjunction_small c (conjunctions_text cs ks) h.1 in
      let q = conjunctions_small cs ks p.1 in ((p.0, q.0), q.1)

  conjunction_small : (c : ConjunctionTree) (ks : List Lexeme) → SmallText (conjunction_text c ks)
      → SmallConjunction c × SmallText ks
  conjunction_small (AllOf r rs) ks h = let p = relation_small r (relations_text rs ks) h in
      let q = relations_small rs ks p.1 in ((p.0, q.0), q.1)

  relations_small : (rs : RelationTrees) (ks : List Lexeme) → SmallText (relations_text rs ks)
      → SmallRelations rs × SmallText ks
  relations_small NoRelations ks h = (tt, h)
  relations_small (AndAlso r rs) ks h = let p = relation_small r (relations_text rs ks) h.1 in
      let q = relations_small rs ks p.1 in ((p.0, q.0), q.1)

  relation_small : (r : RelationTree) (ks : List Lexeme) → SmallText (relation_text r ks)
      → SmallRelation r × SmallText ks
  relation_small (Relates l r) ks h = let p = sum_small l (comparison_text r ks) h in
      let q = comparison_small r ks p.1 in ((p.0, q.0), q.1)

  comparison_small : (r : ComparisonTree) (ks : List Lexeme) → SmallText (comparison_text r ks)
      → SmallComparison r × SmallText ks
  comparison_small NoComparison ks h = (tt, h)
  comparison_small (Compares sign r) ks h = sum_small r ks h.1

  sum_small : (x : SumTree) (ks : List Lexeme) → SmallText (sum_text x ks) → SmallSum x × SmallText ks
  sum_small (Total t ts) ks h = let p = term_small t (summands_text ts ks) h in
      let q = summands_small ts ks p.1 in ((p.0, q.0), q.1)

  summands_small : (ts : SummandTrees) (ks : List Lexeme) → SmallText (summands_text ts ks)
      → SmallSummands ts × SmallText ks
  summands_small NoSummands ks h = (tt, h)
  summands_small (Adds sign place t ts) ks h = let p = term_small t (summands_text ts ks) h.1 in
      let q = summands_small ts ks p.1 in ((p.0, q.0), q.1)

  term_small : (x : TermTree) (ks : List Lexeme) → SmallText (term_text x ks) → SmallTerm x × SmallText ks
  term_small (Product f fs) ks h = let p = factor_small f (multipliers_text fs ks) h in
      let q = multipliers_small fs ks p.1 in ((p.0, q.0), q.1)

  multipliers_small : (fs : MultiplierTrees) (ks : List Lexeme) → SmallText (multipliers_text fs ks)
      → SmallMultipliers fs × SmallText ks
  multipliers_small NoMultipliers ks h = (tt, h)
  multipliers_small (Scales operator f fs) ks h = let p = factor_small f (multipliers_text fs ks) h.1 in
      let q = multipliers_small fs ks p.1 in ((p.0, q.0), q.1)

  factor_small : (x : FactorTree) (ks : List Lexeme) → SmallText (factor_text x ks) → SmallFactor x × SmallText ks
  factor_small (Constant n) ks h = h
  factor_small (Truthful t) ks h = (tt, h.1)
  factor_small (Reads name index) ks h = index_small index ks h.1
  factor_small (Group place e) ks h = let p = expression_small e (Mark S.CloseParen ∷ ks) h.1 in (p.0, p.1.1)
  factor_small (Minus place x) ks h = factor_small x ks h.1
  factor_small (Not place x) ks h = factor_small x ks h.1

  index_small : (x : IndexTree) (ks : List Lexeme) → SmallText (index_text x ks) → SmallIndex x × SmallText ks
  index_small NoIndex ks h = (tt, h)
  index_small (At e) ks h = let p = expression_small e (Mark S.CloseBracket ∷ ks) h.1 in (p.0, p.1.1)

more_arguments_small : (es : List ExpressionTree) (ks : List Lexeme) → SmallText (more_arguments_text es ks)
    → SmallArguments es × SmallText ks
more_arguments_small [] ks h = (tt, h)
more_arguments_small (e ∷ es) ks h = let p = expression_small e (more_arguments_text es ks) h.1 in
    let q = more_arguments_small es ks p.1 in ((p.0, q.0), q.1)

arguments_small : (es : List ExpressionTree) (ks : List Lexeme) → SmallText (arguments_text es ks)
    → SmallArguments es × SmallText ks
arguments_small [] ks h = (tt, h)
arguments_small (e ∷ es) ks h = let p = expression_small e (more_arguments_text es ks) h in
    let q = more_arguments_small es ks p.1 in ((p.0, q.0), q.1)

dotted_small : (name : Option NameTree) (ks : List Lexeme) → SmallText (dotted_text name ks) → SmallText ks
dotted_small None ks h = h
dotted_small (Some name) ks h = h.1.1

callee_small : (c : CalleeTree) (ks : List Lexeme) → SmallText (callee_text c ks)
    → SmallArguments c.arguments × SmallText ks
callee_small c ks h =
    let p = dotted_small c.dotted (MarkAt S.OpenParen c.open_place ∷ arguments_text c.arguments (Mark S.CloseParen
    ∷ ks)) h.1 in
    let q = arguments_small c.arguments (Mark S.CloseParen ∷ ks) p.1 in (q.0, q.1.1)

into_small : (name : Option NameTree) (ks : List Lexeme) → SmallText (into_text name ks) → SmallText ks
into_small None ks h = h
into_small (Some name) ks h = h.1.1

value_small : (e : Option ExpressionTree) (ks : List Lexeme) → SmallText (value_text e ks)
    → SmallValue e × SmallText ks
value_small None ks h = (tt, h)
value_small (Some e) ks h = expression_small e ks h

mutual
  statement_small : (x : StatementTree) (ks : List Lexeme) → SmallText (statement_text x ks)
      → SmallStatement x × SmallText ks
  statement_small (Assign v e) ks h =
      let p = index_small v.index (Mark S.Assign ∷ expression_text e (Mark S.Semicolon ∷ ks)) h.1 in
      let q = expression_small e (Mark S.Semicolon ∷ ks) p.1.1 in ((p.0, q.0), q.1.1)
  statement_small (If place e ss part) ks h =
      let p = expression_small e
      (Word K.Then ∷ statements_text ss (else_text part (Word K.Endif ∷ Mark S.Semicolon ∷ ks))) h.1 in
      let q = statements_small ss (else_text part (Word K.Endif ∷ Mark S.Semicolon ∷ ks)) p.1.1 in
      let r = else_small part (Word K.Endif ∷ Mark S.Semicolon ∷ ks) q.1 in ((p.0, q.0, r.0), r.1.1.1)
  statement_small (While place e ss) ks h =
      let p = expression_small e (Word K.Do ∷ statements_text ss (Word K.Endloop ∷ Mark S.Semicolon ∷ ks)) h.1 in
      let q = statements_small ss (Word K.Endloop ∷ Mark S.Semicolon ∷ ks) p.1.1 in ((p.0, q.0), q.1.1.1)
  statement_small (Call place c into) ks h =
      let p = callee_small c (into_text into (Mark S.Semicolon ∷ ks)) h.1 in
      let q = into_small into (Mark S.Semicolon ∷ ks) p.1 in (p.0, q.1)
  statement_small (Fork place c into) ks h =
      let p = callee_small c (Word K.Into ∷ Named into ∷ Mark S.Semicolon ∷ ks) h.1 in (p.0, p.1.1.1.1)
  statement_small (Join place e into part) ks h =
      let p = expression_small e (into_text into (aborted_text part (Mark S.Semicolon ∷ ks))) h.1 in
      let q = into_small into (aborted_text part (Mark S.Semicolon ∷ ks)) p.1 in
      let r = aborted_small part (Mark S.Semicolon ∷ ks) q in ((p.0, r.0), r.1.1)
  statement_small (Return place e) ks h = let p = value_small e (Mark S.Semicolon ∷ ks) h.1 in (p.0, p.1.1)
  statement_small (Wait place name) ks h = (tt, h.1.1.1)
  statement_small (Notify place name) ks h = (tt, h.1.1.1)
  statement_small (Broadcast place name) ks h = (tt, h.1.1.1)
  statement_small (Print place e) ks h = let p = expression_small e (Mark S.Semicolon ∷ ks) h.1 in (p.0, p.1.1)
  statement_small (Abort place) ks h = (tt, h.1.1)

  pub statements_small : (ss : StatementTrees) (ks : List Lexeme) → SmallText (statements_text ss ks)
      → SmallStatements ss × SmallText ks
  statements_small NoStatements ks h = (tt, h)
  statements_small (Then x ss) ks h = let p = statement_small x (statements_text ss ks) h in
      let q = statements_small ss ks p.1 in ((p.0, q.0), q.1)

  else_small : (x : PartTree) (ks : List Lexeme) → SmallText (else_text x ks) → SmallPart x × SmallText ks
  else_small NoPart ks h = (tt, h)
  else_small (Part ss) ks h = statements_small ss ks h.1

  aborted_small : (x : PartTree) (ks : List Lexeme) → SmallText (aborted_text x ks) → SmallPart x × SmallText ks
  aborted_small NoPart ks h = (tt, h)
  aborted_small (Part ss) ks h = let p = statements_small ss (Word K.End ∷ ks) h.1 in (p.0, p.1.1)
