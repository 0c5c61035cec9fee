use Rattle.std.proofs.Common.{subst, suc, sym}
use Rattle.image_states.specs.Choosing.{AreSleepers}
use Rattle.image_states.proofs.Within.{places_few}
use Rattle.image_states.proofs.parts.Parts.requeue_all.Goals as goal

pub sleepers_on-requires-clause-few : goal.sleepers_on-requires-clause-few
sleepers_on-requires-clause-few c = places_few c.args.self.now c.args.packed.now c.requires.within

pub requeue_of-requires-clause-sleepers : goal.requeue_of-requires-clause-sleepers
requeue_of-requires-clause-sleepers c =
    subst (AreSleepers c.args.packed.now.places.items (suc c.args.from.0)) (sym c.as_slice.ensures.value)
    c.in_ok-sleepers.ensures
