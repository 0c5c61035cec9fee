use Rattle.std.proofs.Common.{◌≡◌, ◌∙◌, ◌-◌, ◌^◌, ◌++◌, ℕ, ap, arith}
use Rattle.std.specs.Fmt.{decimal}
use Rattle.log_text.proofs.numbers.below_zero.Goals as goal

pub returns-in_default-clause-reads : goal.returns-in_default-clause-reads
returns-in_default-clause-reads c = λ v rest high small none is.
    c.in_default.ensures.reads (2 ^ 32 - v) rest (omega (arith, high)) none is

pub returns-then-size-eq0-clause-reads : goal.returns-then-size-eq0-clause-reads
returns-then-size-eq0-clause-reads c = λ v rest high small none is.
    let read = c.in-Some.ensures.reads (2 ^ 32 - v) rest (omega (arith, high)) none is in
    absurd (omega (arith, read.0, c.if-size-eq0.true, small))

pub returns-then-less-gt-GREATEST_SIGNED-clause-reads : goal.returns-then-less-gt-GREATEST_SIGNED-clause-reads
returns-then-less-gt-GREATEST_SIGNED-clause-reads c = λ v rest high small none is.
    let read = c.in-Some.ensures.reads (2 ^ 32 - v) rest (omega (arith, high)) none is in
    absurd (omega (arith, read.0, c.if-less-gt-GREATEST_SIGNED.true, c.if-size-eq0.false, small, high))

pub returns-clause-read : goal.returns-clause-read
returns-clause-read c =
    let some = c.if-size-eq0.false in
    let low = c.if-less-gt-GREATEST_SIGNED.false in
    let same : c.in-Some.size ≡ 2 ^ 32 - (4294967295 - (c.in-Some.size - 1)) = omega (arith, some, low) in (
      omega (arith, some, low),
      omega (arith, some, low),
      c.in-Some.ensures.read ∙ ap (λ (n : ℕ). decimal n ++ c.in-Some.after.now) same,
    )

pub returns-clause-reads : goal.returns-clause-reads
returns-clause-reads c = λ v rest high small none is.
    let read = c.in-Some.ensures.reads (2 ^ 32 - v) rest (omega (arith, high)) none is in
    let size = read.0 in
    (omega (arith, size, high, small), read.1)
