use Rattle.std.proofs.Common.{◌≡◌, ◌+◌, ◌++◌, map, drop}
use Rattle.codegen.specs.Generated.{piece_of}
use Rattle.linker.specs.Linked.{length_of, places_from}
use Rattle.linker.proofs.pieces.places.Given as goal

-- the places so far, and those of what is left, are all
abbrev pub invariant-loop-piece : goal.invariant-loop-piece
invariant-loop-piece l = let left = map piece_of (drop l.piece-index l.pieces) in record {
  sum : l.place + length_of left ≡ length_of (map piece_of l.pieces);
  made : l.places.items ++ places_from l.place left ≡ places_from 0 (map piece_of l.pieces);
}
