use Rattle.std.proofs.Common.{◌≡◌, Contains, List, length, take, ℕ}
use Rattle.buckets.specs.Places.{with_place}
use Rattle.image_states.specs.Choosing.{lists_in, AddsPlaced, HasPlaced}
use Rattle.image_states.specs.Packed.{asleep_at, place_of, IsPrefix}
use Rattle.image_states.proofs.waking.push_sets.Given as goal

abbrev pub invariant-loop-list : goal.invariant-loop-list
invariant-loop-list l = record {
  longer : IsPrefix l.fn.found.items l.found.items;
  each : (chosen : List ℕ) → Contains (lists_in (take l.list-index l.lists)) chosen → length chosen ≡ l.size
      → HasPlaced l.packed l.found.items (with_place (asleep_at l.packed.places.items) chosen (place_of l.to));
  adds : AddsPlaced l.packed l.to l.fn.found.items l.found.items;
}
