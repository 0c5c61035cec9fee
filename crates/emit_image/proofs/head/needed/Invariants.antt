use Rattle.std.proofs.Common.{◌≡◌, ◌≤◌, length}
use Rattle.emit_image.specs.Operands.{first_depth, most_operands}
use Rattle.emit_image.specs.Texts.{deepest}
use Rattle.emit_image.proofs.head.needed.Given as goal

-- the most of what is left is the most of all
abbrev pub invariant-walk : goal.invariant-walk
invariant-walk l = record {
  few : l.depth ≤ most_operands;
  most : l.most ≤ most_operands;
  whole : deepest l.most l.depth l.left ≡ deepest (first_depth l.code) (first_depth l.code) l.code;
}

abbrev pub decreases-walk : goal.decreases-walk
decreases-walk l = length l.left
