use Rattle.std.proofs.Common.{◌≤◌, All, length, take}
use Rattle.image_states.specs.declared.packed.Packed.{Packed as PackedOf}
use Rattle.image_search.proofs.living.are_within.Given as goal

abbrev pub invariant-loop-packed : goal.invariant-loop-packed
invariant-loop-packed l = All (λ (x : PackedOf). length x.places.items ≤ l.count) (take l.packed-index l.states)
