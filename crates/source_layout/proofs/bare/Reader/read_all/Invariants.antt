use Rattle.std.proofs.Common.{◌≡◌, ◌++◌, drop}
use Rattle.source_layout.specs.Bare.{bare_from}
use Rattle.source_layout.proofs.bare.Reader.read_all.Given as goal

abbrev pub invariant-loop-byte : goal.invariant-loop-byte
invariant-loop-byte l =
    l.self.kept.items ++ bare_from l.self.stand l.self.blanks.items (drop l.byte-index l.text)
    ≡ l.fn.self.kept.items ++ bare_from l.fn.self.stand l.fn.self.blanks.items l.text
