-- A memory as the list of its words, where those that aren't 0 are listed.
use Rattle.std.specs.Prelude.{ℕ, Bool, List, [], ◌∷◌, slice_set, true, false}

-- the words with each of these put at its address, one after another
abbrev pub spread : List ℕ → List (ℕ × ℕ) → List ℕ
spread words [] = words
spread words (entry ∷ entries) = spread (slice_set words entry.0 entry.1) entries

-- the word at an address: this one once it is put there, and 0 until then
abbrev pub put_yet : Bool → ℕ → ℕ
put_yet true v = v
put_yet false v = 0
