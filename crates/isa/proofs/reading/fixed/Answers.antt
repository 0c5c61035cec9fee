use Rattle.std.proofs.lemmas.Result.{err_from_is_err_and}
use Rattle.isa.specs.Reading.{fixed_at}
use Rattle.isa.proofs.Loops.{fixed_next, fixed_other, fixed_short, fixed_done}
use Rattle.isa.proofs.reading.fixed.Goals as goal

pub returns-in_err-first : goal.returns-in_err-first
returns-in_err-first c =
    let p = err_from_is_err_and c.from_residual.result c.from_residual.ensures.1 in
    rw (p.1, p.2, c.in_err-first.ensures.0) (λ _. fixed_short c.args.wanted.now c.loop-expected.expected-index
    c.args.fault c.loop-expected.rest.now (fixed_at c.args.wanted.now c.args.fault c.args.bytes.now)
    c.loop-expected-test.true c.in_err-first.ensures.1 c.loop-expected.invariant)

pub returns-then-first-expected : goal.returns-then-first-expected
returns-then-first-expected c = λ _. fixed_other c.args.wanted.now c.loop-expected.expected-index c.args.fault
    c.loop-expected.rest.now c.in_ok-first.first c.in_ok-first.after.now (fixed_at c.args.wanted.now c.args.fault
    c.args.bytes.now) c.loop-expected-test.true c.in_ok-first.ensures c.if-first-expected.true
    c.loop-expected.invariant

pub loop-expected-preserved : goal.loop-expected-preserved
loop-expected-preserved c = fixed_next c.args.wanted.now c.loop-expected.expected-index c.args.fault
    c.loop-expected.rest.now c.in_ok-first.first c.in_ok-first.after.now (fixed_at c.args.wanted.now c.args.fault
    c.args.bytes.now) c.loop-expected-test.true c.in_ok-first.ensures c.if-first-expected.false
    c.loop-expected.invariant

pub returns : goal.returns
returns c = fixed_done c.args.wanted.now c.loop-expected.expected-index c.args.fault c.loop-expected.rest.now
    (fixed_at c.args.wanted.now c.args.fault c.args.bytes.now) c.loop-expected-test.false c.loop-expected.invariant
