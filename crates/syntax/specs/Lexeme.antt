-- What a tree says of each token: its kind, and for some kinds its place and its bytes.
use Rattle.std.specs.Prelude.{ℕ, List, [], ◌∷◌}
use Rattle.scanner.specs.declared.token.Keyword.{Keyword}
use Rattle.scanner.specs.declared.token.Keyword.TheVariants.{Monitor, Var, Procedure, Recover, Main, If, While, Call}
use Rattle.scanner.specs.declared.token.Keyword.TheVariants.{Fork, Join, Return, Wait, Notify, Broadcast, Print, Abort}
use Rattle.scanner.specs.declared.token.Keyword.TheVariants.{Not, True, False}
use Rattle.scanner.specs.declared.token.Sign.{Sign}
use Rattle.scanner.specs.declared.token.Sign.TheVariants.{OpenParen, Plus, Minus}
use Rattle.scanner.specs.declared.token.Kind.{Kind}
use Rattle.scanner.specs.declared.token.Kind.TheVariants.{Keyword as AKeyword, Sign as ASign, Name as AName}
use Rattle.scanner.specs.declared.token.Kind.TheVariants.{Number as ANumber, End as TheEnd}
use Rattle.scanner.specs.declared.token.Place.{Place}
use Rattle.scanner.specs.declared.token.Token.{Token}
use Rattle.syntax.specs.declared.leaf.Number.{Number}

-- a name: its bytes, and the place of the first
pub record NameTree : Type 0 where
  pub text : List ℕ
  pub place : Place

-- what a tree says of a token
pub data Lexeme : Type 0 where
  -- a keyword or a sign whose place no tree keeps, and one whose place trees keep
  Word : Keyword → Lexeme
  WordAt : Keyword → Place → Lexeme
  Mark : Sign → Lexeme
  MarkAt : Sign → Place → Lexeme
  Named : NameTree → Lexeme
  Numbered : Number → Lexeme
  -- the end of the text
  Finish : Lexeme

-- places are kept of the keywords that begin a declaration, a statement or a factor
abbrev pub keyword_lexeme : Keyword → Place → Lexeme
keyword_lexeme Monitor place = WordAt Monitor place
keyword_lexeme Var place = WordAt Var place
keyword_lexeme Procedure place = WordAt Procedure place
keyword_lexeme Recover place = WordAt Recover place
keyword_lexeme Main place = WordAt Main place
keyword_lexeme If place = WordAt If place
keyword_lexeme While place = WordAt While place
keyword_lexeme Call place = WordAt Call place
keyword_lexeme Fork place = WordAt Fork place
keyword_lexeme Join place = WordAt Join place
keyword_lexeme Return place = WordAt Return place
keyword_lexeme Wait place = WordAt Wait place
keyword_lexeme Notify place = WordAt Notify place
keyword_lexeme Broadcast place = WordAt Broadcast place
keyword_lexeme Print place = WordAt Print place
keyword_lexeme Abort place = WordAt Abort place
keyword_lexeme Not place = WordAt Not place
keyword_lexeme True place = WordAt True place
keyword_lexeme False place = WordAt False place
keyword_lexeme word place = Word word

-- places are kept of the signs that may begin a factor, and of `+`, which stands where `-` may
abbrev pub sign_lexeme : Sign → Place → Lexeme
sign_lexeme OpenParen place = MarkAt OpenParen place
sign_lexeme Plus place = MarkAt Plus place
sign_lexeme Minus place = MarkAt Minus place
sign_lexeme sign place = Mark sign

-- what is said of a token of this kind, with these bytes, at this place
abbrev pub lexeme : Kind → List ℕ → Place → Lexeme
lexeme (AKeyword word) text place = keyword_lexeme word place
lexeme (ASign sign) text place = sign_lexeme sign place
lexeme AName text place = Named (record { text = text; place = place })
lexeme (ANumber n) text place = Numbered (record { value = n; place = place })
lexeme TheEnd text place = Finish

-- what is said of a token
abbrev pub lexeme_of : Token → Lexeme
lexeme_of t = lexeme t.kind t.text.now t.place

-- what is said of tokens
abbrev pub lexemes : List Token → List Lexeme
lexemes [] = []
lexemes (t ∷ ts) = lexeme_of t ∷ lexemes ts
