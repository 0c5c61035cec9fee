use Rattle.std.proofs.lemmas.Result.{err_from_is_err_and}
use Rattle.isa.specs.Reading.{instructions_at}
use Rattle.isa.proofs.Loops.{instructions_next, instructions_end, instructions_done}
use Rattle.isa.proofs.reading.instructions.Goals as goal

pub returns-in_err-instr : goal.returns-in_err-instr
returns-in_err-instr c =
    let p = err_from_is_err_and c.from_residual-in_err-instr.result c.from_residual-in_err-instr.ensures.1 in
    rw (p.1, p.2) (λ other. instructions_end c.in_err-instr.field-0.0 c.loop.code.items c.args.count c.loop.counter
    c.loop.rest.now (instructions_at c.args.count c.args.bytes.now) c.loop-test.true
    (c.in_err-instr.ensures other) c.loop.invariant)

pub loop-preserved : goal.loop-preserved
loop-preserved c = rw c.in_ok-push.ensures.items (instructions_next c.loop.code.items c.args.count c.loop.counter
    c.loop.rest.now c.in_ok-instr.instr c.in_ok-instr.after.now (instructions_at c.args.count c.args.bytes.now)
    c.loop-test.true c.in_ok-instr.ensures c.loop.invariant)

pub returns : goal.returns
returns c = instructions_done c.loop.code.items c.args.count c.loop.counter c.loop.rest.now
    (instructions_at c.args.count c.args.bytes.now) c.loop-test.false c.loop.invariant
