-- Kept states in which a process that waits was woken, though nobody notified it.
use Rattle.std.specs.Prelude.{ℕ, ◌≡◌, Bool, None, true}
use Rattle.proof_exploration.specs.Exploring.{awake}
use Rattle.source_search.specs.Packed.{IsWithin, some_table, table_in, unpacked}
use Rattle.source_search.specs.declared.packed.Packed.{Packed as PackedOf}
use Rattle.source_search.specs.declared.spot.Spot.{Spot as SpotOf}
use Rattle.source_search.specs.declared.parts.Parts.{Parts as PartsOf}

-- the process of a spot is awake, where stray wake-ups are searched or not
abbrev pub IsAwakeAt : PartsOf → SpotOf → Bool → Type 0
IsAwakeAt parts spot strays = strays ≡ true → (some_table (table_in parts.tables.items spot.table)).waits spot.process ≡ None

-- the second of two kept states is the first, where the process waits no longer
pub record IsWokenOf (parts parts' : PartsOf) (x : PackedOf) (t : ℕ) (y : PackedOf) : Type 0 where
  pub within : IsWithin parts x → IsWithin parts' y
  pub same : IsWithin parts x → unpacked parts' y ≡ awake true t (unpacked parts x)
