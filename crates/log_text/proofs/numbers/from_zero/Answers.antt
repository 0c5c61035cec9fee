use Rattle.std.proofs.Common.{arith}
use Rattle.log_text.proofs.numbers.from_zero.Goals as goal

pub returns-in_default-clause-reads : goal.returns-in_default-clause-reads
returns-in_default-clause-reads c = λ v rest low none is. c.in_default.ensures.reads v rest (omega (arith, low)) none is

pub returns-then-value-gt-GREATEST_SIGNED-clause-reads : goal.returns-then-value-gt-GREATEST_SIGNED-clause-reads
returns-then-value-gt-GREATEST_SIGNED-clause-reads c = λ v rest low none is.
    let read = c.in-Some.ensures.reads v rest (omega (arith, low)) none is in
    absurd (omega (arith, read.0, c.if-value-gt-GREATEST_SIGNED.true, low))

pub returns-clause-reads : goal.returns-clause-reads
returns-clause-reads c = λ v rest low none is. c.in-Some.ensures.reads v rest (omega (arith, low)) none is
