use Rattle.std.proofs.Common.{◌≤◌, length}
use Rattle.image_states.proofs.Sleeping.{SleepersTo}
use Rattle.image_states.proofs.packed.Packed.sleepers.Given as goal

abbrev pub invariant-loop-k : goal.invariant-loop-k
invariant-loop-k l = record {
  so : SleepersTo l.self.places.items l.place l.k l.sleepers.items;
  few : l.k ≤ length l.self.places.items;
}
