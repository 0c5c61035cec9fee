use Rattle.std.proofs.Common.{◌≡◌, ◌≤◌, drop}
use Rattle.scanner.specs.Lexemes.{value_after, value_of}
use Rattle.scanner.proofs.number.value_of.Given as goal

-- the digits to come complete the number
abbrev pub invariant-loop-digit : goal.invariant-loop-digit
invariant-loop-digit l = record {
  small : l.value ≤ 2147483647;
  completes : value_after l.value (drop l.digit-index l.digits) ≡ value_of l.digits;
}
