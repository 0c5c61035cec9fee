use Rattle.std.proofs.Common.{◌++◌}
use Rattle.syntax.specs.View.{name_of}
use Rattle.types.specs.CallFaults.{recover_faults, outside_faults, condition_faults}
use Rattle.types.specs.Scope.{meaning}
use Rattle.types.proofs.Gathered.{gathers_both}
use Rattle.body_faults.proofs.simple.wait.Goals as goal

pub returns : goal.returns
returns c = λ s h e.
    gathers_both (recover_faults s c.args.place ++ outside_faults s c.args.place)
    (condition_faults (meaning s (name_of c.args.name)) c.args.name.place) c.args.least c.outside-second.result
    c.condition.result
    (gathers_both (recover_faults s c.args.place) (outside_faults s c.args.place) c.args.least c.recover-first.result
    c.outside-second.result (c.recover-first.ensures s e) (c.outside-second.ensures s e)) (c.condition.ensures s h)
