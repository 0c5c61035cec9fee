-- The limits of a source text, each by its name.
use Rattle.std.specs.Prelude.{ℕ}

-- the most bytes that a text may have
abbrev pub most_bytes : ℕ
most_bytes = 1048576

-- the greatest number that a text may have
abbrev pub most_number : ℕ
most_number = 2147483647
