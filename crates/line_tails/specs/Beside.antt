-- Lines that go on, each with a text of its own.
use Rattle.std.specs.Prelude.{ℕ, List, [], ◌∷◌, ◌++◌, nat_eq, if◌then◌else◌}

-- lines with these texts before their line feeds, in their order
abbrev pub with_tails : List ℕ → List (List ℕ) → List ℕ
with_tails [] ts = []
with_tails (b ∷ bs) [] = b ∷ with_tails bs []
with_tails (b ∷ bs) (t ∷ ts) = if nat_eq b 10 then t ++ b ∷ with_tails bs ts else b ∷ with_tails bs (t ∷ ts)
