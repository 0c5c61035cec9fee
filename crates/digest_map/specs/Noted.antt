-- Which numbers a table has.
use Rattle.std.specs.Prelude.{ℕ, ◌≡◌, ◌⊎◌, Contains, List}
use Rattle.digest_map.specs.declared.map.Slot.{Slot}

-- what stands for no number
abbrev pub free : ℕ
free = 4294967295

-- a number stands at some place
abbrev pub Has : List Slot → ℕ → Type 0
Has slots n = (slot : Slot) × Contains slots slot × (slot.number ≡ n)

-- the place is free, or its slot was there, or is this one
abbrev pub IsOf : List Slot → Slot → Slot → Type 0
IsOf before added slot = (slot.number ≡ free) ⊎ Contains before slot ⊎ (slot ≡ added)

-- what stands at the places now was there, or is this slot
abbrev pub HasAdded : List Slot → Slot → List Slot → Type 0
HasAdded before added after = (slot : Slot) → Contains after slot → IsOf before added slot

-- what stands at the places now was there
abbrev pub HasKept : List Slot → List Slot → Type 0
HasKept before after = (slot : Slot) → Contains after slot → (slot.number ≡ free) ⊎ Contains before slot

-- a number that stands there now, and isn't free, is this one or stood there
abbrev pub HasNoted : List Slot → ℕ → List Slot → Type 0
HasNoted before number after =
    (n : ℕ) → Has after n → (n ≡ free) ⊎ (n ≡ number) ⊎ Has before n
