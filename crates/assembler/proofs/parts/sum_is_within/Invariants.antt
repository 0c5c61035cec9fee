use Rattle.std.proofs.Common.{◌≡◌, ◌+◌, drop, sum}
use Rattle.assembler.proofs.parts.sum_is_within.Given as goal

abbrev pub invariant-loop-number : goal.invariant-loop-number
invariant-loop-number l = l.left + sum l.numbers ≡ l.most + sum (drop l.number-index l.numbers)
