use Rattle.std.proofs.Common.{◌≡◌, ◌≤◌, ◌+◌, ◌++◌, length, string_bytes}
use Rattle.emit_image.specs.Operands.{first_depth, most_operands}
use Rattle.emit_image.specs.Texts.{declarations}
use Rattle.emit_image.proofs.functions.append_declarations.Given as goal

-- what is written, and the declarations of what is left, are all of them
abbrev pub invariant-declarations : goal.invariant-declarations
invariant-declarations l = record {
  few : l.depth ≤ most_operands;
  counted : l.place + length l.left ≡ length l.code;
  written : string_bytes l.text ++ declarations l.marks l.place l.depth l.left
      ≡ string_bytes l.initial.text ++ declarations l.marks 0 (first_depth l.code) l.code;
}

abbrev pub decreases-declarations : goal.decreases-declarations
decreases-declarations l = length l.left
