use Rattle.std.proofs.Common.{subst}
use Rattle.machine.specs.States.{state_of}
use Rattle.machine.specs.Views.{View, concrete}
use Rattle.image_states.specs.Crowds.{IsCrowded}
use Rattle.image_search.proofs.crowds.has_crowd.Goals as goal

pub returns : goal.returns
returns c = λ e. subst (λ (v : View). IsCrowded (state_of (concrete v)).asleep) c.machine.ensures.shows (c.is_crowded.ensures e)
