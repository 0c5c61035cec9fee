use Rattle.std.proofs.Common.{◌≡◌, ◌++◌, drop}
use Rattle.std.specs.List.{flat_map}
use Rattle.actionlines.specs.Lines.{spaced_number}
use Rattle.actionlines.proofs.texts.append_all.Given as goal

abbrev pub invariant-loop-number : goal.invariant-loop-number
invariant-loop-number l =
    l.bytes.items ++ flat_map spaced_number (drop l.number-index l.numbers)
    ≡ l.fn.bytes.items ++ flat_map spaced_number l.numbers
