use Rattle.std.proofs.Common.{◌≡◌, ◌≤◌, ◌+◌, map, drop}
use Rattle.isa.specs.Limits.{most_instructions}
use Rattle.codegen.specs.Generated.{piece_of}
use Rattle.linker.specs.Linked.{length_of}
use Rattle.linker.proofs.pieces.total.Given as goal

-- what is counted, and what is left, is all
abbrev pub invariant-loop-piece : goal.invariant-loop-piece
invariant-loop-piece l = record {
  sum : l.total + length_of (map piece_of (drop l.piece-index l.pieces)) ≡ length_of (map piece_of l.pieces);
  room : l.total ≤ most_instructions;
}
