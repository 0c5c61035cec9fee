use Rattle.std.proofs.Common.{◌≡◌, ◌≤◌, ◌-◌, None, map, replicate, vec_len}
use Rattle.linker.specs.Collecting.{slot_of}
use Rattle.linker.proofs.collector.empty_slots.Given as goal

-- so many are empty
abbrev pub invariant-loop-slots : goal.invariant-loop-slots
invariant-loop-slots l = record {
  within : vec_len l.slots ≤ l.pieces;
  empty : map slot_of l.slots.items ≡ replicate (vec_len l.slots) None;
}

abbrev pub decreases-loop-slots : goal.decreases-loop-slots
decreases-loop-slots l = l.pieces - vec_len l.slots
