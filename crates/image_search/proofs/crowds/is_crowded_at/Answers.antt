use Rattle.machine.specs.States.{state_of}
use Rattle.machine.specs.Views.{concrete}
use Rattle.image_search.proofs.Crowding.{crowd_of}
use Rattle.image_search.proofs.crowds.is_crowded_at.Goals as goal

pub returns : goal.returns
returns c = λ e.
    crowd_of (state_of (concrete c.args.machine.now)).asleep c.in-Some.a.0 c.sleepers_in-count.result
    c.sleepers_in-count.ensures (c.is_many.ensures e)
