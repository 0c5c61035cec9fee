use Rattle.std.proofs.Common.{string_bytes}
use Rattle.log_text.proofs.Lines.{Listed}
use Rattle.log_text.proofs.writing.append_members.Given as goal

abbrev pub invariant-loop-before : goal.invariant-loop-before
invariant-loop-before l =
    Listed (string_bytes l.initial.text) l.word (string_bytes l.text) l.set l.from l.before
