use Rattle.std.proofs.Common.{◌≡◌, length, map}
use Rattle.std.specs.Vec.Iter.{into_iter_items, into_iter_len}
use Rattle.codegen.specs.Generated.{piece_of}
use Rattle.codegen_workers.specs.Arrivals.{all_added, AreFree}
use Rattle.codegen_workers.proofs.collecting.take_in.Given as goal

-- what is left comes to the same places, which are free
abbrev pub invariant-loop-piece : goal.invariant-loop-piece
invariant-loop-piece l = let left = map piece_of (into_iter_items l.piece-iterator) in record {
  free : AreFree l.collector left;
  added : all_added l.collector left ≡ all_added l.fn.collector (map piece_of l.fn.pieces.items);
  left : into_iter_len l.piece-iterator ≡ length (into_iter_items l.piece-iterator);
}
