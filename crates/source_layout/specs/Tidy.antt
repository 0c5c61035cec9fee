-- What each text has that was laid out.
use Rattle.std.specs.Prelude.{ℕ, ◌+◌, Bool, false, List, [], ◌∷◌, ◌==◌, ◌&&◌, not, nat_lt, if◌then◌else◌}
use Rattle.scanner.specs.Bytes.{is_white}

-- the same of the rest of a text, behind so many line feeds in a row, and behind white space or not
abbrev pub is_tidy_behind : ℕ → Bool → List ℕ → Bool
is_tidy_behind feeds blank [] = nat_lt 0 feeds
is_tidy_behind feeds blank (b ∷ bs) =
    if b == 10 then not blank && (nat_lt feeds 2 && is_tidy_behind (feeds + 1) false bs)
    else is_tidy_behind 0 (is_white b) bs

-- no line ends in white space, no two lines in a row are empty, the first line isn't empty, and the last one ends
abbrev pub is_tidy : List ℕ → Bool
is_tidy text = is_tidy_behind 2 false text
