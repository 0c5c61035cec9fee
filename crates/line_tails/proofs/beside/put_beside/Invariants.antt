use Rattle.std.proofs.Common.{◌≡◌, ◌++◌, drop, map}
use Rattle.std.specs.String.{string_bytes}
use Rattle.line_tails.specs.Beside.{with_tails}
use Rattle.line_tails.proofs.beside.put_beside.Given as goal

abbrev pub invariant-loop-byte : goal.invariant-loop-byte
invariant-loop-byte l =
    l.out.items ++ with_tails (drop l.byte-index l.lines) (map string_bytes l.left)
    ≡ l.head ++ with_tails l.lines (map string_bytes l.tails)
