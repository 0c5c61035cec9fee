-- A text without white space that says nothing: that outside of comments, and that at their ends.
use Rattle.std.specs.Prelude.{ℕ, List, [], ◌∷◌, ◌++◌, ◌==◌, ◌&&◌, not, if◌then◌else◌}
use Rattle.scanner.specs.Bytes.{is_white}
use Rattle.source_layout.specs.declared.bare.Stand.{Stand}
use Rattle.source_layout.specs.declared.bare.Stand.TheVariants.{Outside, Minus, Inside}

-- where a reader stands behind a byte: a comment goes from two minus signs to the end of its line
abbrev pub stand_after : Stand → ℕ → Stand
stand_after Outside b = if b == 45 then Minus else Outside
stand_after Minus b = if b == 45 then Inside else Outside
stand_after Inside b = if b == 10 then Outside else Inside

-- the white space right before the next byte that belongs to a comment if more of it follows
abbrev pub blanks_after : Stand → List ℕ → ℕ → List ℕ
blanks_after Inside blanks b = if is_white b && not (b == 10) then blanks ++ b ∷ [] else []
blanks_after _ blanks b = []

-- what is kept at a byte; a comment's line feed is kept too
abbrev pub kept : Stand → List ℕ → ℕ → List ℕ
kept Inside blanks b = if b == 10 then b ∷ [] else (if is_white b then [] else blanks ++ b ∷ [])
kept _ blanks b = if is_white b then [] else b ∷ []

-- what is kept at the end of a text: a comment there gets its line feed
abbrev pub kept_at_end : Stand → List ℕ
kept_at_end Inside = 10 ∷ []
kept_at_end _ = []

-- what is kept of the rest of a text
abbrev pub bare_from : Stand → List ℕ → List ℕ → List ℕ
bare_from stand blanks [] = kept_at_end stand
bare_from stand blanks (b ∷ bs) =
    kept stand blanks b ++ bare_from (stand_after stand b) (blanks_after stand blanks b) bs

-- what is kept of a text
abbrev pub bare : List ℕ → List ℕ
bare text = bare_from Outside [] text
