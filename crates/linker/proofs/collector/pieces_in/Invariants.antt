use Rattle.std.proofs.Common.{◌≡◌, ◌++◌, false, length, map}
use Rattle.std.specs.Vec.Iter.{into_iter_items, into_iter_len}
use Rattle.codegen.specs.Generated.{piece_of}
use Rattle.linker.specs.Collecting.{collected, has_gap, slot_of}
use Rattle.linker.proofs.collector.pieces_in.Given as goal

-- what has come out, and what is left, is all; and no place that is left is empty
abbrev pub invariant-loop-slot : goal.invariant-loop-slot
invariant-loop-slot l = record {
  out : map piece_of l.pieces.items ++ collected l.number (map slot_of (into_iter_items l.slot-iterator))
      ≡ collected 0 (map slot_of l.fn.slots.items);
  full : has_gap (map slot_of (into_iter_items l.slot-iterator)) ≡ false;
  counted : l.number ≡ length l.pieces.items;
  left : into_iter_len l.slot-iterator ≡ length (into_iter_items l.slot-iterator);
}
