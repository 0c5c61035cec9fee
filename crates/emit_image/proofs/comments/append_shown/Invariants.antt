use Rattle.std.proofs.Common.{◌≡◌, ◌++◌, drop, map}
use Rattle.std.specs.String.{string_bytes}
use Rattle.emit_image.specs.Comments.{shown}
use Rattle.emit_image.proofs.comments.append_shown.Given as goal

-- what is written, and what is left, are all bytes
abbrev pub invariant-loop-byte : goal.invariant-loop-byte
invariant-loop-byte l =
    string_bytes l.text ++ map shown (drop l.byte-index l.bytes) ≡ string_bytes l.fn.text ++ map shown l.bytes
