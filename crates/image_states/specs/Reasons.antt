-- Why not all that may come next of a packed state was found.
use Rattle.std.specs.Prelude.{ℕ, ◌<◌, List, length}
use Rattle.image_states.specs.Crowds.{IsCrowded}
use Rattle.image_states.specs.Packed.{asleep_at, IsOutOfNumbers}
use Rattle.image_states.specs.declared.bound.Bound.{Bound}
use Rattle.image_states.specs.declared.bound.Bound.TheVariants.{Parts as TooMany, Sleepers}
use Rattle.image_states.specs.declared.packed.Packed.{Packed as PackedOf}
use Rattle.image_states.specs.declared.parts.Parts.{Parts as PartsOf}

-- there are as many parts as numbers; or more than twelve threads sleep on one address in the state
abbrev pub IsWhy : PartsOf → PackedOf → Bound → Type 0
IsWhy parts x TooMany = IsOutOfNumbers parts
IsWhy parts x Sleepers = IsCrowded (asleep_at x.places.items)

-- or there are more than twelve of these sleepers
abbrev pub IsWhyAmong : PartsOf → List ℕ → Bound → Type 0
IsWhyAmong parts sleepers TooMany = IsOutOfNumbers parts
IsWhyAmong parts sleepers Sleepers = 12 < length sleepers
