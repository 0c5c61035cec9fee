-- What was read of files and written to them. The kit's files say nothing of contents, and not which file has a name: so
-- this is of some file of the runtime, and of one whose bytes are known.
use Rattle.std.specs.Prelude.{ℕ, ◌≡◌, List, Option, IfSome, take}
use Rattle.std.specs.Io.KnownBytes.{Appends}

-- these bytes are those of a file, or the first so many of a longer one
abbrev pub IsOfFile : {F : Type 0} → (F → Option (List ℕ)) → ℕ → List ℕ → Type 0
IsOfFile {F} remaining most bytes = (file : F) × IfSome (remaining file) (λ xs. bytes ≡ take most xs)

-- a file has got these bytes, behind what it had
abbrev pub IsPut : {F : Type 0} → (F → Option (List ℕ)) → List ℕ → Type 0
IsPut {F} contents bytes = (old : F) × (new : F) × Appends (contents old) (contents new) bytes
