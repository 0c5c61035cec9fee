use Rattle.std.proofs.Common.{◌≡◌, ◌≤◌, ◌+◌, ◌-◌, ◌++◌, drop, length}
use Rattle.std.specs.Prelude.{slice_index, vec_len, vec_capacity}
use Rattle.lowering.specs.Marks.{instructions}
use Rattle.lowering.specs.Linking.{linked_code}
use Rattle.linker.specs.Linked.{all_fit}
use Rattle.linker.proofs.pieces.link_piece.Given as goal

-- what is linked, and what is left, is all, and there is room for it
abbrev pub invariant-loop-marked : goal.invariant-loop-marked
invariant-loop-marked l =
    let left = instructions (linked_code (slice_index l.starts) l.base (drop l.marked-index l.code)) in
    let all = instructions (linked_code (slice_index l.starts) l.base l.code) in record {
      made : l.image.items ++ left ≡ l.fn.image.items ++ all;
      fit : all_fit l.total left ≡ all_fit l.total all;
      room : vec_len l.image + (length l.code - l.marked-index) ≤ vec_capacity l.image;
    }
