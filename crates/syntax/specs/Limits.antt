-- The limit of a source text's nestings, by its name.
use Rattle.std.specs.Prelude.{ℕ}

-- the most nestings that are open at once in a program
abbrev pub most_nestings : ℕ
most_nestings = 64
