-- Which refusal a list of tokens has.
use Rattle.std.specs.Prelude.{◌≡◌, ◌≤◌, ℕ, List, [], ◌∷◌, ◌++◌}
use Rattle.scanner.specs.declared.token.Token.{Token}
use Rattle.scanner.specs.declared.refusal.Refusal.{Refusal}
use Rattle.scanner.specs.declared.refusal.RefusalKind.{RefusalKind}
use Rattle.scanner.specs.declared.refusal.RefusalKind.TheVariants.{Expected, Limit}
use Rattle.syntax.specs.Limits.{most_nestings}
use Rattle.syntax.specs.Lexeme.{Lexeme, lexeme_of, lexemes}
use Rattle.syntax.specs.Tree.{UnitTree}
use Rattle.syntax.specs.Spelling.{unit_text}
use Rattle.syntax.specs.Nesting.{unit_nesting}

-- some unit begins so
abbrev pub Begins : List Lexeme → Type 0
Begins ks = (u : UnitTree) × (rest : List Lexeme) × (unit_text u ≡ ks ++ rest)

-- some unit with at most so many nestings open at once begins so
abbrev pub BeginsWithin : ℕ → List Lexeme → Type 0
BeginsWithin n ks = (u : UnitTree) × (rest : List Lexeme) × (unit_text u ≡ ks ++ rest) × (unit_nesting u ≤ n)

-- Expected: no unit has this lexeme there; Limit: some unit has it there, but none within the limit
abbrev pub Why : RefusalKind → List Lexeme → Lexeme → Type 0
Why Expected ks k = Begins (ks ++ k ∷ []) → ⊥
Why Limit ks k = Begins (ks ++ k ∷ []) × (BeginsWithin most_nestings (ks ++ k ∷ []) → ⊥)
Why _ ks k = ⊥

-- the refusal of a list of tokens: what stands before its token begins a unit within the limit, and with that token it
-- begins none
pub record IsRefusalOf (tokens : List Token) (e : Refusal) : Type 0 where
  pub front : List Token
  pub token : Token
  pub back : List Token
  pub parts : tokens ≡ front ++ token ∷ back
  pub place : e.place ≡ token.place
  pub begins : BeginsWithin most_nestings (lexemes front)
  pub why : Why e.kind (lexemes front) (lexeme_of token)
