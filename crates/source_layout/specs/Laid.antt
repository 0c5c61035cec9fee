-- What a text has in common with the text that is laid out of it.
use Rattle.std.specs.Prelude.{◌≡◌, ◌≤◌, ◌⊎◌, ℕ, List, map}
use Rattle.scanner.specs.declared.token.Kind.{Kind}
use Rattle.scanner.specs.declared.token.Token.{Token}
use Rattle.scanner.specs.declared.refusal.Refusal.{Refusal}
use Rattle.scanner.specs.Tokens.{IsTokens, views}
use Rattle.scanner.specs.Faults.{IsFault}
use Rattle.syntax.specs.Lexeme.{lexemes}
use Rattle.syntax.specs.Limits.{most_nestings}
use Rattle.syntax.specs.Nesting.{unit_nesting}
use Rattle.syntax.specs.Spelling.{unit_text}
use Rattle.syntax.specs.Tree.{UnitTree}
use Rattle.grammar.specs.Accepts as grammar
use Rattle.source_layout.specs.Bare.{bare}

-- the text is these tokens, and they are some unit
pub record IsUnit (text : List ℕ) (tokens : List Token) : Type 0 where
  pub scanned : IsTokens text (views tokens)
  pub unit : UnitTree
  pub spelled : unit_text unit ≡ lexemes tokens
  pub within : unit_nesting unit ≤ most_nestings

-- the text has tokens, and they are no unit
pub record IsNoUnit (text : List ℕ) (e : Refusal) : Type 0 where
  pub tokens : List Token
  pub scanned : IsTokens text (views tokens)
  pub refusal : grammar.IsRefusalOf tokens e

-- the refusal of a text that is no unit: it has no tokens, or they are none
abbrev pub RefusesUnit : List ℕ → Refusal → Type 0
RefusesUnit text e = IsFault text e ⊎ IsNoUnit text e

-- what a token says, wherever it stands
abbrev pub said : Token → Kind × List ℕ
said t = (t.kind, t.text.now)

-- both texts are units of the same tokens, and but for white space that says nothing they are the same bytes: so each
-- comment is there, between the same tokens
pub record IsSameUnit (text laid : List ℕ) : Type 0 where
  pub tokens : List Token
  pub others : List Token
  pub is_unit : IsUnit text tokens
  pub is_laid_unit : IsUnit laid others
  pub same_tokens : map said tokens ≡ map said others
  pub same_bytes : bare text ≡ bare laid
