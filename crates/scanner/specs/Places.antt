-- Where a byte stands. A line feed ends a line, and every other byte is one column.
use Rattle.std.specs.Prelude.{ℕ, ◌+◌, List, [], ◌∷◌, ◌==◌, if◌then◌else◌}
use Rattle.scanner.specs.declared.token.Place.{Place}

-- the place of a text's first byte
abbrev pub start : Place
start = record { line = 1; column = 1 }

-- the place just after one byte
abbrev pub next_place : Place → ℕ → Place
next_place p b = if b == 10 then record { line = p.line + 1; column = 1 } else
    record { line = p.line; column = p.column + 1 }

-- the place just after bytes, the first of which stands at p
abbrev pub place_after : Place → List ℕ → Place
place_after p [] = p
place_after p (b ∷ bs) = place_after (next_place p b) bs
