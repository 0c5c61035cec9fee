use Rattle.std.proofs.Common.{◌≡◌, ◌<◌, ◌^◌, ◌++◌, length}
use Rattle.std.specs.Fmt.{decimal}
use Rattle.log_text.proofs.numbers.number.Given as goal

abbrev pub invariant-digits : goal.invariant-digits
invariant-digits l = record {
  small : l.value < 2 ^ 32;
  whole : l.text ≡ decimal l.value ++ l.rest;
}

abbrev pub decreases-digits : goal.decreases-digits
decreases-digits l = length l.rest
