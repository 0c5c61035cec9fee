use Rattle.std.specs.String.{string_bytes}
use Rattle.hint_lines.specs.HintLines.{AreHintLines}
use Rattle.hint_lines.proofs.lines.hint_lines.Given as goal

abbrev pub invariant-loop-line : goal.invariant-loop-line
invariant-loop-line l = AreHintLines (string_bytes l.out)
