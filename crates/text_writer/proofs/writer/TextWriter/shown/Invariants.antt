use Rattle.std.proofs.Common.{◌≡◌, ◌++◌, IfSome, IsSomeAnd, drop, map}
use Rattle.text_writer.specs.Writing.{shown}
use Rattle.text_writer.proofs.writer.TextWriter.shown.Given as goal

abbrev pub invariant-loop-byte : goal.invariant-loop-byte
invariant-loop-byte l = IfSome l.self (λ text. IsSomeAnd l.fn.self (λ before.
    text ++ map shown (drop l.byte-index l.bytes) ≡ before ++ map shown l.bytes))
