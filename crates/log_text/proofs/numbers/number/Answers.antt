use Rattle.std.proofs.Common.{◌∙◌, arith, sym}
use Rattle.log_text.proofs.Digits.{digit_first, digit_shorter, digit_there, grown, number_once, too_big, zero_first}
use Rattle.log_text.proofs.numbers.number.Goals as goal

pub returns-in_default-clause-reads : goal.returns-in_default-clause-reads
returns-in_default-clause-reads c = λ n rest small none is.
    digit_there n c.args.text.now rest small c.in_default.ensures is

pub digits-init : goal.digits-init
digits-init c =
    let high = c.in-Some.ensures.0.1 in
    record {
      small = omega (arith, high);
      whole = digit_first c.in-Some.first c.args.text.now c.in-Some.behind.now c.in-Some.ensures.0 c.in-Some.ensures.1;
    }

pub returns-then-value-eq0-clause-reads : goal.returns-then-value-eq0-clause-reads
returns-then-value-eq0-clause-reads c = λ n rest small none is.
    let l = c.digits in
    zero_first l.value c.in-Some-digit.byte n c.args.text.now l.rest.now c.in-Some-digit.after.now rest c.if-value-eq0.true
    c.in-Some-digit.ensures.0 l.invariant.whole c.in-Some-digit.ensures.1 small none is

pub returns-then-value-gt-GREATEST-clause-reads : goal.returns-then-value-gt-GREATEST-clause-reads
returns-then-value-gt-GREATEST-clause-reads c = λ n rest small none is.
    let l = c.digits in
    let past = c.if-value-gt-GREATEST.true in
    too_big l.value c.in-Some-digit.byte n c.args.text.now l.rest.now c.in-Some-digit.after.now rest l.invariant.small
    c.in-Some-digit.ensures.0 (omega (arith, past)) l.invariant.whole c.in-Some-digit.ensures.1 small none is

pub digits-preserved : goal.digits-preserved
digits-preserved c =
    let l = c.digits in
    let below = c.if-value-gt-GREATEST.false in
    record {
      small = omega (arith, below);
      whole = grown l.value c.in-Some-digit.byte c.args.text.now l.rest.now c.in-Some-digit.after.now c.if-value-eq0.false
          l.invariant.small c.in-Some-digit.ensures.0 l.invariant.whole c.in-Some-digit.ensures.1;
    }

pub digits-smaller : goal.digits-smaller
digits-smaller c = digit_shorter c.digits.rest.now c.in-Some-digit.after.now c.in-Some-digit.byte c.in-Some-digit.ensures.1

pub returns-clause-reads : goal.returns-clause-reads
returns-clause-reads c = λ n rest small none is.
    let l = c.digits in
    let both = number_once l.value n l.rest.now rest l.invariant.small small c.in_default-digit.ensures none
    (sym l.invariant.whole ∙ is) in
    (both.0, both.1)
