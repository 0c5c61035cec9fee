-- Lines of the source as comments of C.
use Rattle.std.specs.Prelude.{ℕ, ◌-◌, Bool, true, false, not, ◌&&◌, ◌||◌, List, [], ◌∷◌, ◌++◌, codes, map, nat_eq, nat_le, if◌then◌else◌}
use Rattle.std.specs.Prelude.{slice_index_or}
use Rattle.std.specs.List.{slice_split}
use Rattle.std.specs.Fmt.{decimal}
use Rattle.emit_image.specs.declared.comments.LineStart.{LineStart}

-- the lines of a text: what stands before, between and behind its line feeds
abbrev pub lines_in : List ℕ → List (List ℕ)
lines_in text = slice_split (λ b. nat_eq b 10) text

-- of lines, the one of this number, the first of which is 1; where there is none it has no bytes
abbrev pub line_of : List (List ℕ) → ℕ → List ℕ
line_of source number = slice_index_or source (number - 1) []

-- how a byte of a line is shown in a comment: white space as a blank; a backslash, a question mark and what is no
-- printable ASCII as a full stop; all else as itself
abbrev pub shown : ℕ → ℕ
shown b =
    if nat_le 9 b && nat_le b 13 then 32 else
    if (nat_le 32 b && nat_le b 62) || (nat_le 64 b && nat_le b 91) || (nat_le 93 b && nat_le b 126) then b else 46

-- the comment of a line, with its number
abbrev pub comment : ℕ → List ℕ → List ℕ
comment number line = codes "// " ++ decimal number ++ codes ": " ++ map shown line ++ codes "\n"

-- the comments before the instruction at a place: of those of the next lines whose code begins there, or before it
abbrev pub comments : List (List ℕ) → ℕ → List LineStart → List ℕ
comments source place [] = []
comments source place (s ∷ ss) =
    if nat_le s.place place then comment s.line (line_of source s.line) ++ comments source place ss else []

-- the lines that are next behind it
abbrev pub later : ℕ → List LineStart → List LineStart
later place [] = []
later place (s ∷ ss) = if nat_le s.place place then later place ss else s ∷ ss

-- whether a line of C goes on with two question marks, by its bytes, the last one first
abbrev pub is_questioned : List ℕ → Bool
is_questioned [] = false
is_questioned (a ∷ []) = false
is_questioned (a ∷ b ∷ bs) = nat_eq a 63 && nat_eq b 63

-- whether a line of C, by its bytes, the last one first, is joined to the next one: it ends in a backslash, or in `??/`,
-- which stands for one, with blanks behind it or none
abbrev pub is_joined : List ℕ → Bool
is_joined [] = false
is_joined (b ∷ bs) =
    if nat_eq b 92 then true else if nat_eq b 47 then is_questioned bs else
    if nat_eq b 32 then is_joined bs else false

-- what stands behind a comment of C that begins with `//`, where these are the bytes of its line so far, the last one
-- first: it ends with the first line that isn't joined to the next one (C11, 5.1.1.2 and 6.4.9)
abbrev pub behind_comment : List ℕ → List ℕ → List ℕ
behind_comment line [] = []
behind_comment line (b ∷ bs) =
    if nat_eq b 10 && not (is_joined line) then bs else behind_comment (b ∷ line) bs
