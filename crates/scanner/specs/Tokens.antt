-- The tokens of a text.
use Rattle.std.specs.Prelude.{◌≡◌, ◌≢◌, ◌≤◌, ℕ, List, [], ◌∷◌, ◌++◌, map, length}
use Rattle.scanner.specs.declared.token.Kind.{Kind}
use Rattle.scanner.specs.declared.token.Kind.TheVariants.{End}
use Rattle.scanner.specs.declared.token.Place.{Place}
use Rattle.scanner.specs.declared.token.Token.{Token}
use Rattle.scanner.specs.Limits.{most_bytes}
use Rattle.scanner.specs.Places.{start, place_after}
use Rattle.scanner.specs.Lexemes.{Spells, IsLongest}
use Rattle.scanner.specs.Gaps.{IsGap, IsLastGap}

-- a token by its bytes
pub record TokenView : Type 0 where
  pub kind : Kind
  pub text : List ℕ
  pub place : Place

-- what a token says
abbrev pub view : Token → TokenView
view t = record { kind = t.kind; text = t.text.now; place = t.place }

-- what tokens say
abbrev pub views : List Token → List TokenView
views ts = map view ts

-- bytes that begin at the place p are a gap, the longest lexeme, which is the token t, and the rest
pub record StandsFirst (p : Place) (bytes : List ℕ) (t : TokenView) (rest : List ℕ) : Type 0 where
  pub gap : List ℕ
  pub parts : bytes ≡ gap ++ (t.text ++ rest)
  pub is_gap : IsGap gap
  pub spells : Spells t.kind t.text
  pub longest : IsLongest t.text rest
  pub place : t.place ≡ place_after p gap

-- the same of tokens one after another; the rest begins at the place q
abbrev pub StandInOrder : Place → List ℕ → List TokenView → Place → List ℕ → Type 0
StandInOrder p bytes [] q rest = (p ≡ q) × (bytes ≡ rest)
StandInOrder p bytes (t ∷ ts) q rest = (behind : List ℕ) × StandsFirst p bytes t behind
    × StandInOrder (place_after t.place t.text) behind ts q rest

-- the last token
abbrev pub end_at : Place → TokenView
end_at p = record { kind = End; text = []; place = p }

-- the end is the last token, and no other one
abbrev pub EndsOnce : List TokenView → Type 0
EndsOnce [] = ⊥
EndsOnce (t ∷ []) = t.kind ≡ End
EndsOnce (t ∷ u ∷ ts) = (t.kind ≢ End) × EndsOnce (u ∷ ts)

-- ts are the tokens of the text: those that stand in it with gaps between, and the end
pub record IsTokens (text : List ℕ) (ts : List TokenView) : Type 0 where
  pub short : length text ≤ most_bytes
  pub tokens : List TokenView
  pub place : Place
  pub rest : List ℕ
  pub in_order : StandInOrder start text tokens place rest
  pub last_gap : IsLastGap rest
  pub all : ts ≡ tokens ++ end_at (place_after place rest) ∷ []
