-- The grammar of statements: what each tree is spelled as, before what follows it.
use Rattle.std.specs.Prelude.{List, ◌∷◌}
use Rattle.scanner.specs.declared.token.Keyword.TheVariants as K
use Rattle.scanner.specs.declared.token.Sign.TheVariants as S
use Rattle.syntax.specs.Lexeme.{Lexeme, Word, WordAt, Mark, Named}
use Rattle.syntax.specs.Tree.{StatementTree, Assign, If, While, Call, Fork, Join, Return, Wait, Notify, Broadcast}
use Rattle.syntax.specs.Tree.{Print, Abort, StatementTrees, NoStatements, Then, PartTree, NoPart, Part}
use Rattle.syntax.specs.ExpressionSpelling.{expression_text, index_text, callee_text, into_text, value_text}

-- statements, and the parts that hold others
abbrev mutual
  pub statement_text : StatementTree → List Lexeme → List Lexeme
  statement_text (Assign v e) ks = Named v.name ∷ index_text v.index
      (Mark S.Assign ∷ expression_text e (Mark S.Semicolon ∷ ks))
  statement_text (If place e ss part) ks = WordAt K.If place ∷ expression_text e
      (Word K.Then ∷ statements_text ss (else_text part (Word K.Endif ∷ Mark S.Semicolon ∷ ks)))
  statement_text (While place e ss) ks = WordAt K.While place ∷ expression_text e
      (Word K.Do ∷ statements_text ss (Word K.Endloop ∷ Mark S.Semicolon ∷ ks))
  statement_text (Call place c into) ks = WordAt K.Call place ∷ callee_text c (into_text into (Mark S.Semicolon ∷ ks))
  statement_text (Fork place c into) ks = WordAt K.Fork place ∷ callee_text c
      (Word K.Into ∷ Named into ∷ Mark S.Semicolon ∷ ks)
  statement_text (Join place e into part) ks =
      WordAt K.Join place ∷ expression_text e (into_text into (aborted_text part (Mark S.Semicolon ∷ ks)))
  statement_text (Return place value) ks = WordAt K.Return place ∷ value_text value (Mark S.Semicolon ∷ ks)
  statement_text (Wait place name) ks = WordAt K.Wait place ∷ Named name ∷ Mark S.Semicolon ∷ ks
  statement_text (Notify place name) ks = WordAt K.Notify place ∷ Named name ∷ Mark S.Semicolon ∷ ks
  statement_text (Broadcast place name) ks = WordAt K.Broadcast place ∷ Named name ∷ Mark S.Semicolon ∷ ks
  statement_text (Print place e) ks = WordAt K.Print place ∷ expression_text e (Mark S.Semicolon ∷ ks)
  statement_text (Abort place) ks = WordAt K.Abort place ∷ Mark S.Semicolon ∷ ks

  pub statements_text : StatementTrees → List Lexeme → List Lexeme
  statements_text NoStatements ks = ks
  statements_text (Then s ss) ks = statement_text s (statements_text ss ks)

  pub else_text : PartTree → List Lexeme → List Lexeme
  else_text NoPart ks = ks
  else_text (Part ss) ks = Word K.Else ∷ statements_text ss ks

  pub aborted_text : PartTree → List Lexeme → List Lexeme
  aborted_text NoPart ks = ks
  aborted_text (Part ss) ks = Word K.Aborted ∷ statements_text ss (Word K.End ∷ ks)
