-- Which memory another one is with a word stored, by their numbers.
use Rattle.std.specs.Prelude.{ℕ, ◌≡◌, ◌<◌, List, Some, length, slice_set}
use Rattle.std.specs.List.{slice_get}
use Rattle.image_states.specs.declared.stored.Stored.{Stored}

-- what stands for no number
abbrev pub free : ℕ
free = 4294967295

-- the memory of a number is that of another one with this word at an address
abbrev pub IsStored : List (List ℕ) → (before a v after : ℕ) → Type 0
IsStored memories before a v after = (before < length memories)
    × ((words : List ℕ) → slice_get memories before ≡ Some words → slice_get memories after ≡ Some (slice_set words a v))

-- so each note says, where it says anything
abbrev pub AreStored : List (List ℕ) → List Stored → Type 0
AreStored memories notes = (i : ℕ) (note : Stored) → slice_get notes i ≡ Some note → (note.after ≡ free → ⊥)
    → IsStored memories note.before note.address note.word note.after
