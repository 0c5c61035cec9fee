use Rattle.syntax.specs.View.{name_of}
use Rattle.types.specs.CallFaults.{outside_faults, condition_faults}
use Rattle.types.specs.Scope.{meaning}
use Rattle.types.proofs.Gathered.{gathers_both}
use Rattle.body_faults.proofs.simple.notify.Goals as goal

pub returns : goal.returns
returns c = λ s h e.
    gathers_both (outside_faults s c.args.place) (condition_faults (meaning s (name_of c.args.name)) c.args.name.place)
    c.args.least c.outside-first.result c.condition.result (c.outside-first.ensures s e) (c.condition.ensures s h)
