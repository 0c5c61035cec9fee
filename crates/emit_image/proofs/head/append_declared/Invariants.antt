use Rattle.std.proofs.Common.{◌≡◌, ◌++◌, string_bytes}
use Rattle.emit_image.specs.Texts.{declared}
use Rattle.emit_image.proofs.head.append_declared.Given as goal

abbrev pub invariant-loop-number : goal.invariant-loop-number
invariant-loop-number l = string_bytes l.text ≡ string_bytes l.initial.text ++ declared l.number-counter
