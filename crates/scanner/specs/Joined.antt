-- Tokens joined with what stands between them.
use Rattle.std.specs.Prelude.{ℕ, List, [], ◌∷◌, ◌++◌}
use Rattle.scanner.specs.Gaps.{IsGap, IsLastGap}
use Rattle.scanner.specs.Tokens.{TokenView}

-- each token's bytes behind the gap before it
abbrev pub joined_bytes : List (List ℕ) → List TokenView → List ℕ
joined_bytes (gap ∷ gaps) (t ∷ ts) = gap ++ (t.text ++ joined_bytes gaps ts)
joined_bytes _ _ = []

-- the gaps before the tokens; the last one stands before the end
abbrev pub AreGaps : List (List ℕ) → Type 0
AreGaps [] = Unit {0}
AreGaps (gap ∷ []) = IsLastGap gap
AreGaps (gap ∷ next ∷ gaps) = IsGap gap × AreGaps (next ∷ gaps)
