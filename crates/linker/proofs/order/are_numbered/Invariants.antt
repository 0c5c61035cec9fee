use Rattle.std.proofs.Common.{◌≡◌, map, drop}
use Rattle.codegen.specs.Generated.{piece_of}
use Rattle.linker.specs.Linked.{are_from}
use Rattle.linker.proofs.order.are_numbered.Given as goal

-- it is decided by what is left
abbrev pub invariant-loop-piece : goal.invariant-loop-piece
invariant-loop-piece l = record {
  counted : l.expected ≡ l.piece-index;
  left : are_from l.expected l.count (map piece_of (drop l.piece-index l.pieces))
      ≡ are_from 0 l.count (map piece_of l.pieces);
}
