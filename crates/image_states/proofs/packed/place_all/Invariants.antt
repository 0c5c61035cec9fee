use Rattle.std.proofs.Common.{◌≡◌, length, take}
use Rattle.buckets.specs.Places.{with_place}
use Rattle.image_states.specs.Packed.{asleep_at, place_of}
use Rattle.image_states.proofs.packed.place_all.Given as goal

abbrev pub invariant-loop-t : goal.invariant-loop-t
invariant-loop-t l = record {
  placed : asleep_at l.places ≡ with_place (asleep_at l.fn.places) (take l.t-index l.chosen) (place_of l.place);
  count : length l.places ≡ length l.fn.places;
}
