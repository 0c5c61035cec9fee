use Rattle.std.proofs.Common.{subst, suc, sym}
use Rattle.image_states.specs.Choosing.{AreSleepers}
use Rattle.image_states.proofs.Within.{places_few}
use Rattle.image_states.proofs.parts.Parts.wake_at.Goals as goal

pub sleepers_on-requires-clause-few : goal.sleepers_on-requires-clause-few
sleepers_on-requires-clause-few c = places_few c.args.self.now c.args.packed.now c.requires.within

pub wake_of-requires-clause-sleepers : goal.wake_of-requires-clause-sleepers
wake_of-requires-clause-sleepers c =
    subst (AreSleepers c.args.packed.now.places.items (suc c.args.address.0)) (sym c.as_slice.ensures.value)
    c.in_ok-sleepers.ensures
