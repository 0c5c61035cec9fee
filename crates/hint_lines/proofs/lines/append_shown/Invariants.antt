use Rattle.std.proofs.Common.{◌≡◌, ◌++◌, drop, map}
use Rattle.std.specs.String.{string_bytes}
use Rattle.hint_lines.specs.HintLines.{shown}
use Rattle.hint_lines.proofs.lines.append_shown.Given as goal

abbrev pub invariant-loop-byte : goal.invariant-loop-byte
invariant-loop-byte l =
    string_bytes l.out ++ map shown (drop l.byte-index l.bytes) ≡ string_bytes l.fn.out ++ map shown l.bytes
