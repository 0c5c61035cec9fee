-- The thread goes on in its place.
use Rattle.runner.proofs.Walking.{walk_accessed, walk_none}
use Rattle.runner.proofs.in_place.walk.Goals as goal

pub returns-clause-accessed : goal.returns-clause-accessed
returns-clause-accessed c =
    let w = c.walk.ensures.walks in
    walk_accessed c.args.machine.now w.mid c.walk.new.self c.args.t c.walk.result.0 c.walk.result.1 c.requires w.runs
    w.phases w.made

pub returns-clause-walked : goal.returns-clause-walked
returns-clause-walked c =
    let w = c.walk.ensures.walks in
    walk_none c.args.machine.now w.mid c.walk.new.self c.args.t c.walk.result.0 c.walk.result.1 c.requires w.runs w.phases
    w.made
