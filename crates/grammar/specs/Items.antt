-- What a machine reads: lexemes with their places.
use Rattle.std.specs.Prelude.{List, [], ◌∷◌}
use Rattle.scanner.specs.declared.token.Place.{Place}
use Rattle.scanner.specs.declared.token.Token.{Token}
use Rattle.syntax.specs.Lexeme.{Lexeme, lexeme_of}

-- a lexeme with its place
pub record Item : Type 0 where
  pub lexeme : Lexeme
  pub place : Place

-- the item of a token
abbrev pub item_of : Token → Item
item_of t = record { lexeme = lexeme_of t; place = t.place }

-- the items of tokens
abbrev pub items_of : List Token → List Item
items_of [] = []
items_of (t ∷ ts) = item_of t ∷ items_of ts
