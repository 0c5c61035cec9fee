use Rattle.std.proofs.Common.{arith}
use Rattle.scanner.proofs.Passing.{value_next}
use Rattle.scanner.proofs.number.value_of.Goals as goal

pub returns-then-value-from : goal.returns-then-value-from
returns-then-value-from c = λ small.
    omega (
      arith,
      value_next c.loop-digit.value c.loop-digit.digit-index c.args.digits.now c.loop-digit-test.true,
      c.loop-digit.invariant.completes,
    )
