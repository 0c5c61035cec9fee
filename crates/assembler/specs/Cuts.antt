-- Texts that are cut at a byte.
use Rattle.std.specs.Prelude.{ℕ, ◌≡◌, ◌≢◌, List, [], ◌∷◌}

-- there is no such byte in it
abbrev pub NoByte : ℕ → List ℕ → Type 0
NoByte b [] = Unit {0}
NoByte b (x ∷ xs) = (x ≢ b) × NoByte b xs

-- it has come to its end, or to such a byte
abbrev pub AtByte : ℕ → List ℕ → Type 0
AtByte b [] = Unit {0}
AtByte b (x ∷ xs) = x ≡ b
