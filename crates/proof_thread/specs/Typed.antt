-- Values of the types that a program gives them, and the words that hold them.
use Rattle.std.specs.Prelude.{ℕ, ℤ, pos, ◌≡◌, ◌≤◌, ◌⊎◌, List, [], ◌∷◌, slice_get, slice_index, Some, FitsSigned, ⊤}
use Rattle.std.specs.Int.{w32}
use Rattle.words.specs.Signed.{word_of}
use Rattle.program.specs.declared.kinds.ValueType.{ValueType}
use Rattle.program.specs.declared.kinds.ValueType.TheVariants.{Integer, Boolean, Process}

-- an INTEGER fits a word, a BOOLEAN is 0 or 1, a handle is 0 or the number of a process, of which there can be so
-- many, and of which so many were made
abbrev pub HasValue : ℕ → ℕ → ValueType → ℤ → Type 0
HasValue most made Integer z = FitsSigned w32 z
HasValue most made Boolean z = (z ≡ pos 0) ⊎ (z ≡ pos 1)
HasValue most made Process z = (n : ℕ) × (z ≡ pos n) × (n ≤ made) × (n ≤ most)

-- values of these types, one for one
abbrev pub HaveValues : ℕ → ℕ → List ValueType → List ℤ → Type 0
HaveValues most made [] [] = ⊤
HaveValues most made [] (z ∷ zs) = ⊥
HaveValues most made (t ∷ ts) [] = ⊥
HaveValues most made (t ∷ ts) (z ∷ zs) = HasValue most made t z × HaveValues most made ts zs

-- the first of the words hold the values
abbrev pub HoldValues : List ℕ → List ℤ → Type 0
HoldValues words values = (i : ℕ) (z : ℤ) → slice_get values i ≡ Some z → slice_index words i ≡ word_of z
