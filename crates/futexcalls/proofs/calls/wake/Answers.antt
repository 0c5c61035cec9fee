-- Those taken are the front of the list.
use Rattle.futexcalls.proofs.Choices.{wakes-front}
use Rattle.futexcalls.proofs.calls.wake.Goals as goal

pub returns-clause-call : goal.returns-clause-call
returns-clause-call c =
    let t = c.take.ensures in
    wakes-front c.args.buckets.now c.take.new.self c.args.a.0 c.args.n c.take.new.taken t.sound.0 t.taken t.places
