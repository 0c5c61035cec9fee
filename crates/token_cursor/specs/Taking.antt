-- What becomes of the item that stands first.
use Rattle.std.specs.Prelude.{◌≡◌, ◌≢◌, ◌<◌, List, [], Bool, true, false, Option, Some, None, length}
use Rattle.scanner.specs.declared.token.Keyword.{Keyword}
use Rattle.scanner.specs.declared.token.Place.{Place}
use Rattle.scanner.specs.declared.refusal.Refusal.{Refusal}
use Rattle.scanner.specs.declared.refusal.RefusalKind.TheVariants.{Expected}
use Rattle.syntax.specs.Lexeme.{Lexeme, WordAt}
use Rattle.grammar.specs.Machine.{Symbol, Tree, Item, Push, Reject, reply, refusal_at}
use Rattle.grammar.specs.Reading.{lexeme_at, rest_after}

-- this symbol is read from the first item alone, which is passed, and this is its tree
pub record Takes (s : Symbol) (x : Tree s) (before after : List Item) : Type 0 where
  pub reply : reply s (lexeme_at before) ≡ Push [] (λ _. x)
  pub rest : after ≡ rest_after before
  pub shorter : length after < length before

-- this symbol can't begin with the first item, which is refused
pub record Rejects (s : Symbol) (before : List Item) (e : Refusal) : Type 0 where
  pub reply : reply s (lexeme_at before) ≡ Reject
  pub refusal : e ≡ refusal_at Expected before

-- this lexeme stood first, and was passed
pub record Found (k : Lexeme) (before after : List Item) : Type 0 where
  pub first : lexeme_at before ≡ k
  pub rest : after ≡ rest_after before
  pub shorter : length after < length before

-- another lexeme stands first, and nothing was passed
pub record Absent (k : Lexeme) (before after : List Item) : Type 0 where
  pub first : lexeme_at before ≢ k
  pub same : after ≡ before

-- this lexeme was passed if it stood first, and the answer says so
abbrev pub Eats : Lexeme → Bool → List Item → List Item → Type 0
Eats k true before after = Found k before after
Eats k false before after = Absent k before after

-- the same of a keyword with its place
abbrev pub EatsAt : Keyword → Option Place → List Item → List Item → Type 0
EatsAt w (Some place) before after = Found (WordAt w place) before after
EatsAt w None before after = ((place : Place) → lexeme_at before ≢ WordAt w place) × (after ≡ before)
