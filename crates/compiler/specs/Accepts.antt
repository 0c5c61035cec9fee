-- Which program a text is, and which refusal a text has that is none.
use Rattle.std.specs.Prelude.{◌≡◌, ◌≤◌, ◌⊎◌, ℕ, List}
use Rattle.words.specs.declared.version.ImageVersion.{ImageVersion}
use Rattle.scanner.specs.declared.token.Token.{Token}
use Rattle.scanner.specs.declared.refusal.Refusal.{Refusal}
use Rattle.scanner.specs.Tokens.{IsTokens, views}
use Rattle.scanner.specs.Faults.{IsFault}
use Rattle.syntax.specs.Lexeme.{lexemes}
use Rattle.syntax.specs.Limits.{most_nestings}
use Rattle.syntax.specs.Nesting.{unit_nesting}
use Rattle.syntax.specs.Spelling.{unit_text}
use Rattle.syntax.specs.Tree.{UnitTree}
use Rattle.grammar.specs.Accepts as grammar
use Rattle.types.specs.Judgement as names
use Rattle.types.specs.Resolved.{resolved}
use Rattle.program.specs.Trees.{Program, as_version}
use Rattle.proof_well_formed.specs.Faultless.{IsFaultless}
use Rattle.codegen.specs.Failures.{too_long}
use Rattle.backend.specs.Refusals as backend

-- the text is these tokens, and they are the unit, with no more nestings than may be
pub record IsUnit (text : List ℕ) (tokens : List Token) (unit : UnitTree) : Type 0 where
  pub scanned : IsTokens text (views tokens)
  pub spelled : unit_text unit ≡ lexemes tokens
  pub within : unit_nesting unit ≤ most_nestings

-- the unit has no fault, and p is its program
pub record IsProgramOf (unit : UnitTree) (p : Program) : Type 0 where
  pub faultless : IsFaultless unit
  pub program : p ≡ resolved unit

-- the text is a unit, and p is its program
pub record AcceptsText (text : List ℕ) (p : Program) : Type 0 where
  pub tokens : List Token
  pub unit : UnitTree
  pub is_unit : IsUnit text tokens unit
  pub is_program : IsProgramOf unit p

-- the text has tokens, and they are no unit
pub record IsNoUnit (text : List ℕ) (e : Refusal) : Type 0 where
  pub tokens : List Token
  pub scanned : IsTokens text (views tokens)
  pub refusal : grammar.IsRefusalOf tokens e

-- the text is a unit, and e is its least fault
pub record IsFaultyUnit (text : List ℕ) (e : Refusal) : Type 0 where
  pub tokens : List Token
  pub unit : UnitTree
  pub is_unit : IsUnit text tokens unit
  pub refusal : names.IsRefusalOf unit e

-- the text is a program, and its code is too long
pub record TextIsTooLong (text : List ℕ) (e : Refusal) : Type 0 where
  pub program : Program
  pub accepts : AcceptsText text program
  pub long : backend.CodeIsTooLong program
  pub refusal : e ≡ too_long

-- the same where its image is of this version
pub record TextIsTooLongAs (version : ImageVersion) (text : List ℕ) (e : Refusal) : Type 0 where
  pub program : Program
  pub accepts : AcceptsText text program
  pub long : backend.CodeIsTooLong (as_version version program)
  pub refusal : e ≡ too_long

-- the refusal of a text that is no program: it has no tokens, they are no unit, or the unit has a fault
abbrev pub RefusesProgram : List ℕ → Refusal → Type 0
RefusesProgram text e = IsFault text e ⊎ (IsNoUnit text e ⊎ IsFaultyUnit text e)

-- the refusal of a text that has no image, by the earliest phase: it is no program, or its code is too long
abbrev pub RefusesText : List ℕ → Refusal → Type 0
RefusesText text e = RefusesProgram text e ⊎ TextIsTooLong text e

-- the refusal of a text that has no image of this version
abbrev pub RefusesTextAs : ImageVersion → List ℕ → Refusal → Type 0
RefusesTextAs version text e = RefusesProgram text e ⊎ TextIsTooLongAs version text e
