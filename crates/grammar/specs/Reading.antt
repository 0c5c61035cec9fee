-- What a part of a parser does, in terms of the machine.
use Rattle.std.specs.Prelude.{◌≡◌, ◌⊎◌, ◌++◌, ℕ, List, [], ◌∷◌}
use Rattle.scanner.specs.declared.refusal.Refusal.{Refusal}
use Rattle.scanner.specs.declared.refusal.RefusalKind.TheVariants.{Memory}
use Rattle.syntax.specs.Limits.{most_nestings}
use Rattle.syntax.specs.Lexeme.{Lexeme, Finish}
use Rattle.syntax.specs.Tree.{FactorTree}
use Rattle.grammar.specs.Machine.{Symbol, Trees, Begins, factor_begin, Item, Refused, reads, on_read, nestings, split}

-- the first lexeme, and what stands behind it
abbrev pub lexeme_at : List Item → Lexeme
lexeme_at [] = Finish
lexeme_at (t ∷ ts) = t.lexeme

-- the items behind the first one
abbrev pub rest_after : List Item → List Item
rest_after [] = []
rest_after (t ∷ ts) = ts

-- a factor begins with this lexeme
pub record StartsFactor (k : Lexeme) : Type 0 where
  pub symbols : List Symbol
  pub make : Trees symbols → FactorTree
  pub begins : factor_begin k ≡ Begins symbols make

-- trees of one stack on those of another
abbrev pub append_trees : (σ τ : List Symbol) → Trees σ → Trees τ → Trees (σ ++ τ)
append_trees [] τ x y = y
append_trees (s ∷ σ) τ x y = (x.0, append_trees σ τ x.1 y)

-- what stands first is read as these symbols, with these trees, whatever is expected behind it
pub record Passes (depth : ℕ) (σ : List Symbol) (x : Trees σ) (before after : List Item) : Type 0 where
  pub passes : (κ : List Symbol) → nestings κ ≡ depth → reads most_nestings before (σ ++ κ) ≡ on_read
      (append_trees σ κ x)
      (reads most_nestings after κ)

-- this is the refusal, whatever is expected behind these symbols
pub record RefusesReading (depth : ℕ) (σ : List Symbol) (before : List Item) (e : Refusal) : Type 0 where
  pub refuses : (κ : List Symbol) → nestings κ ≡ depth → reads most_nestings before (σ ++ κ) ≡ Refused e

-- memory ran out, or this is the refusal
pub record Fails (depth : ℕ) (σ : List Symbol) (before : List Item) (e : Refusal) : Type 0 where
  pub fails : (e.kind ≡ Memory) ⊎ RefusesReading depth σ before e

-- what was read so far leads from these symbols to those, whose trees make theirs
pub record Leads (depth : ℕ) (σ ρ : List Symbol) (g : Trees ρ → Trees σ) (before after : List Item) : Type 0 where
  pub leads : (κ : List Symbol) → nestings κ ≡ depth → reads most_nestings before (σ ++ κ) ≡ on_read
      (λ y. append_trees σ κ (g (split ρ κ y).0) (split ρ κ y).1) (reads most_nestings after (ρ ++ κ))
