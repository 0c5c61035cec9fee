use Rattle.std.proofs.Common.{◌≡◌, ◌++◌, string_bytes}
use Rattle.log_text.specs.LogLines.{log_lines}
use Rattle.log_text.proofs.writing.append_log.Given as goal

abbrev pub invariant-loop-entry : goal.invariant-loop-entry
invariant-loop-entry l = string_bytes l.text ≡ string_bytes l.initial.text ++ log_lines l.yielded
