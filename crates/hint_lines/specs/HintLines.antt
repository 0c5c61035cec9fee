-- What holds of lines of hints, whatever they say.
use Rattle.std.specs.Prelude.{◌≡◌, ◌≤◌, ℕ, List, [], ◌∷◌, ◌++◌, ◌&&◌, map, nat_le, if◌then◌else◌}
use Rattle.std.specs.List.{flat_map}

-- a byte that a terminal shows as one sign
pub record IsPrintable (b : ℕ) : Type 0 where
  pub from_blank : 32 ≤ b
  pub to_tilde : b ≤ 126

-- how a byte is shown: as itself, or where no terminal shows it as one sign as a question mark
abbrev pub shown : ℕ → ℕ
shown b = if nat_le 32 b && nat_le b 126 then b else 63

-- two blanks, what the line says, and a line feed
abbrev pub hint_line : List ℕ → List ℕ
hint_line said = 32 ∷ 32 ∷ (map shown said ++ 10 ∷ [])

-- lines of hints, one after the other
pub record AreHintLines (bytes : List ℕ) : Type 0 where
  pub lines : List (List ℕ)
  pub text : bytes ≡ flat_map hint_line lines
