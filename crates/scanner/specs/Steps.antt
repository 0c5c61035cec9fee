-- What the parts of the scanner do; no public clause cites this.
use Rattle.std.specs.Prelude.{◌≡◌, ◌≢◌, ◌≤◌, ◌<◌, ◌+◌, ◌^◌, ◌⊎◌, ℕ, List, [], ◌∷◌, ◌++◌, length, drop, slice_index}
use Rattle.std.specs.Prelude.{Bool, false, ◌&&◌, ◌||◌, ◌==◌, nat_lt, if◌then◌else◌}
use Rattle.std.specs.Char.{is_ascii_alphabetic, is_ascii_digit}
use Rattle.scanner.specs.declared.token.Place.{Place}
use Rattle.scanner.specs.declared.source.Source.{Source}
use Rattle.scanner.specs.declared.token.Token.{Token}
use Rattle.scanner.specs.declared.refusal.Refusal.{Refusal}
use Rattle.scanner.specs.declared.front.Front.{Front}
use Rattle.scanner.specs.declared.front.Front.TheVariants.{Finish, White, Comment, Word, Digits, Other, PastAscii}
use Rattle.scanner.specs.Bytes.{is_white}
use Rattle.scanner.specs.Places.{place_after}
use Rattle.scanner.specs.Lexemes.{Spells, IsLongest}
use Rattle.scanner.specs.Gaps.{IsGap, IsLastGap}
use Rattle.scanner.specs.Tokens.{TokenView, view}
use Rattle.scanner.specs.Faults.{StandsWrong}

-- a minus stands first
abbrev pub begins_minus : List ℕ → Bool
begins_minus [] = false
begins_minus (b ∷ bs) = b == 45

-- what the first byte, for a comment the first two, say
abbrev pub front_of : List ℕ → Front
front_of [] = Finish
front_of (b ∷ bs) =
    if is_white b then White
    else (if (b == 45) && begins_minus bs then Comment
    else (if is_ascii_alphabetic b then Word
    else (if is_ascii_digit b then Digits
    else (if nat_lt b 128 then Other
    else PastAscii))))

-- no line and no column passes 32 bits
pub record PlacesFit (p : Place) (bytes : List ℕ) : Type 0 where
  pub lines : p.line + length bytes < 2 ^ 32
  pub columns : p.column + length bytes < 2 ^ 32

-- the places of what is left of a text can be counted
abbrev pub SourceFits : Source → Type 0
SourceFits s = PlacesFit s.place s.rest.now

-- so many bytes stand first, and none of them is a line feed
pub record OnOneLine (bytes : List ℕ) (count : ℕ) : Type 0 where
  pub within : count ≤ length bytes
  pub no_feed : (k : ℕ) → k < count → slice_index bytes k ≢ 10

-- `passed` was passed
pub record Passes (p : Place) (old : List ℕ) (passed : List ℕ) (q : Place) (new : List ℕ) : Type 0 where
  pub parts : old ≡ passed ++ new
  pub place : q ≡ place_after p passed

-- a gap was passed, or a last gap and with it the whole text
pub record PassesGap (p : Place) (old : List ℕ) (q : Place) (new : List ℕ) : Type 0 where
  pub gap : List ℕ
  pub passes : Passes p old gap q new
  pub is_gap : IsGap gap ⊎ (IsLastGap gap × (new ≡ []))

-- a gap was passed, up to the next token or to the end
abbrev pub SkipsGap : Source → Source → Type 0
SkipsGap old new = PassesGap old.place old.rest.now new.place new.rest.now

-- the token t was passed
pub record PassesToken (p : Place) (old : List ℕ) (t : TokenView) (q : Place) (new : List ℕ) : Type 0 where
  pub passes : Passes p old t.text q new
  pub place : t.place ≡ p
  pub spells : Spells t.kind t.text
  pub longest : IsLongest t.text new

-- a token was passed
abbrev pub TakesToken : Source → Token → Source → Type 0
TakesToken old t new = PassesToken old.place old.rest.now (view t) new.place new.rest.now

-- what is left is wrong, and e says what it is
abbrev pub IsWrongAt : Source → Refusal → Type 0
IsWrongAt s e = StandsWrong s.place s.rest.now e

-- a sign's text stands first, and it is the longest
pub record SignFirst (text bytes : List ℕ) : Type 0 where
  pub parts : bytes ≡ text ++ drop (length text) bytes
  pub longest : IsLongest text (drop (length text) bytes)
  pub line : OnOneLine bytes (length text)

-- a byte that is a sign, and with `=` behind it another
abbrev pub can_grow : ℕ → Bool
can_grow b = (b == 58) || ((b == 60) || (b == 62))
