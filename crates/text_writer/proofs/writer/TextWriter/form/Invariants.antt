use Rattle.std.proofs.Common.{◌≡◌, ◌++◌, IfSome, IsSomeAnd, drop}
use Rattle.text_writer.specs.Writing.{filled}
use Rattle.text_writer.proofs.writer.TextWriter.form.Given as goal

abbrev pub invariant-loop-byte : goal.invariant-loop-byte
invariant-loop-byte l = IfSome l.self (λ text. IsSomeAnd l.fn.self (λ before.
    text ++ filled (drop l.byte-index l.form) l.left ≡ before ++ filled l.form l.numbers))
