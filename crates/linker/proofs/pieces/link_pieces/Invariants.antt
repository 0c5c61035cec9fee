use Rattle.std.proofs.Common.{◌≡◌, ◌+◌, ◌++◌, map, drop}
use Rattle.std.specs.Prelude.{slice_index}
use Rattle.lowering.specs.Marks.{instructions}
use Rattle.codegen.specs.Generated.{piece_of}
use Rattle.linker.specs.Linked.{all_fit, code_from, length_of}
use Rattle.linker.proofs.pieces.link_pieces.Given as goal

-- what is linked, and what is left, is all
abbrev pub invariant-loop-piece : goal.invariant-loop-piece
invariant-loop-piece l =
    let rest = map piece_of (drop l.piece-index l.pieces) in
    let left = instructions (code_from (slice_index l.starts) l.base rest) in
    let all = instructions (code_from (slice_index l.starts) 0 (map piece_of l.pieces)) in record {
      sum : l.base + length_of rest ≡ l.total;
      made : l.image.items ++ left ≡ all;
      fit : all_fit l.total left ≡ all_fit l.total all;
    }
