-- What is wrong with a text that has no tokens, and where.
use Rattle.std.specs.Prelude.{◌≡◌, ◌≤◌, ◌<◌, ◌⊎◌, ℕ, List, [], ◌∷◌, ◌++◌, length, IsTrue, IsFalse}
use Rattle.scanner.specs.declared.token.Place.{Place}
use Rattle.scanner.specs.declared.refusal.Refusal.{Refusal}
use Rattle.scanner.specs.declared.refusal.RefusalKind.{RefusalKind}
use Rattle.scanner.specs.declared.refusal.RefusalKind.TheVariants.{NotAscii, BadToken, Limit}
use Rattle.scanner.specs.Bytes.{is_white}
use Rattle.scanner.specs.Limits.{most_bytes, most_number}
use Rattle.scanner.specs.Places.{start, place_after}
use Rattle.scanner.specs.Lexemes.{is_digits, value_of, IsLexeme, IsLongest}
use Rattle.scanner.specs.Gaps.{IsGap, IsLastGap}
use Rattle.scanner.specs.Tokens.{TokenView, StandInOrder}

-- a byte past ASCII stands first
abbrev pub BeginsPastAscii : List ℕ → Type 0
BeginsPastAscii [] = ⊥
BeginsPastAscii (b ∷ bs) = 128 ≤ b

-- a byte of ASCII stands first that is neither white space nor the first byte of a lexeme
abbrev pub BeginsNoToken : List ℕ → Type 0
BeginsNoToken [] = ⊥
BeginsNoToken (b ∷ bs) = (b < 128) × IsFalse (is_white b) × ((more : List ℕ) → ¬ IsLexeme (b ∷ more))

-- a number stands first that is too great
abbrev pub BeginsTooGreat : List ℕ → Type 0
BeginsTooGreat bs = (digits rest : List ℕ) × (bs ≡ digits ++ rest) × IsTrue (is_digits digits) × IsLongest digits rest
    × (most_number < value_of digits)

-- behind the last whole token stand `before`, which is a gap, and then what is wrong; a byte past ASCII may stand in
-- a comment too
abbrev pub IsWrong : RefusalKind → List ℕ → List ℕ → Type 0
IsWrong NotAscii before behind = IsLastGap before × BeginsPastAscii behind
IsWrong BadToken before behind = IsGap before × (BeginsNoToken behind ⊎ BeginsTooGreat behind)
IsWrong _ before behind = ⊥

-- e says what is wrong behind the last whole token, and its place; `rest`, which begins at p, is what stands there
pub record StandsWrong (p : Place) (rest : List ℕ) (e : Refusal) : Type 0 where
  pub before : List ℕ
  pub behind : List ℕ
  pub parts : rest ≡ before ++ behind
  pub wrong : IsWrong e.kind before behind
  pub at : e.place ≡ place_after p before

-- tokens stand in order up to what is wrong
pub record IsFirstWrong (text : List ℕ) (e : Refusal) : Type 0 where
  pub tokens : List TokenView
  pub place : Place
  pub rest : List ℕ
  pub in_order : StandInOrder start text tokens place rest
  pub wrong : StandsWrong place rest e

-- a text's fault: it is too long, which comes before all else, or e is what is wrong first
abbrev pub IsFault : List ℕ → Refusal → Type 0
IsFault text e =
    ((most_bytes < length text) × (e ≡ record { kind = Limit; place = start }))
    ⊎ ((length text ≤ most_bytes) × IsFirstWrong text e)
