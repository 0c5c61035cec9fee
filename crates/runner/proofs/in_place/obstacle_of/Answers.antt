use Rattle.runner.proofs.Wanting.{seen_first}
use Rattle.runner.proofs.in_place.obstacle_of.Goals as goal

pub returns : goal.returns
returns c = λ bucket here is goes told.
    seen_first c.args.machine.now c.machine-machine.result.now c.args.t c.in-Some-next_bucket.bucket bucket c.in-Some-holder.holder
    c.args.next c.in-Shared.request c.in-Some.call here c.machine-machine.ensures.shows c.machine-machine.ensures.fit is goes told
    c.in-Shared.is c.in-Some.ensures c.in-Some-next_bucket.ensures c.in-Some-holder.ensures c.if-holder-t.false
