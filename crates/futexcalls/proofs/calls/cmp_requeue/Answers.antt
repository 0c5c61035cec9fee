-- Those woken are the front of the list, and those moved the front of what is left.
use Rattle.std.proofs.Common.{◌∙◌}
use Rattle.futexcalls.specs.Answers.{word_of}
use Rattle.futexcalls.proofs.Choices.{requeues-front, word-got}
use Rattle.futexcalls.proofs.calls.cmp_requeue.Goals as goal

pub returns-clause-call : goal.returns-clause-call
returns-clause-call c =
    let t = c.take.ensures in
    let m = c.shift.ensures in
    requeues-front (word_of c.args.mem.now) c.args.buckets.now c.take.new.self c.shift.new.self
    c.args.a.0 c.args.b.0 c.args.wake c.args.moves c.args.expected c.take.new.taken c.shift.new.moved
    (word-got c.args.mem.now c.args.a.0 c.load.result c.load.ensures ∙ c.if-load-expected.false) t.sound.0
    t.sound.1 t.taken t.places m.moved m.places
