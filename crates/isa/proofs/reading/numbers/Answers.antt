use Rattle.std.proofs.lemmas.Result.{err_from_is_err_and}
use Rattle.isa.specs.Reading.{numbers_at}
use Rattle.isa.proofs.FieldLaws.{limited_is}
use Rattle.isa.proofs.Loops.{numbers_next, numbers_end, numbers_done}
use Rattle.isa.proofs.reading.numbers.Goals as goal

pub overflow_sub-left : goal.overflow_sub-left
overflow_sub-left c = (limited_is c.loop.left c.loop.rest.now (c.in_ok-value.value, c.in_ok-value.after.now)
    c.in_ok-value.ensures).1

pub returns-in_err-value : goal.returns-in_err-value
returns-in_err-value c =
    let p = err_from_is_err_and c.from_residual.result c.from_residual.ensures.1 in
    rw (p.1, p.2) (λ other. numbers_end c.in_err-value.field-0.0 c.loop.values.items c.args.count c.loop.counter
    c.loop.left c.loop.rest.now (numbers_at c.args.count c.args.limit c.args.bytes.now) c.loop-test.true
    (c.in_err-value.ensures other) c.loop.invariant)

pub loop-preserved : goal.loop-preserved
loop-preserved c = rw c.in_ok-push.ensures.items (numbers_next c.loop.values.items c.args.count c.loop.counter
    c.loop.left c.loop.rest.now c.in_ok-value.value c.in_ok-value.after.now (numbers_at c.args.count c.args.limit
    c.args.bytes.now) c.loop-test.true c.in_ok-value.ensures c.loop.invariant)

pub returns : goal.returns
returns c = numbers_done c.loop.values.items c.args.count c.loop.counter c.loop.left c.loop.rest.now
    (numbers_at c.args.count c.args.limit c.args.bytes.now) c.loop-test.false c.loop.invariant
