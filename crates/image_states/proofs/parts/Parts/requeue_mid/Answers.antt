use Rattle.std.proofs.Common.{subst, suc, sym}
use Rattle.image_states.specs.Choosing.{AreSleepers}
use Rattle.image_states.proofs.Requeued.{some_within}
use Rattle.image_states.proofs.Within.{places_few}
use Rattle.image_states.proofs.parts.Parts.requeue_mid.Goals as goal

pub sleepers_on-requires-clause-few : goal.sleepers_on-requires-clause-few
sleepers_on-requires-clause-few c =
    places_few c.args.self.now c.args.mid.now
    (some_within c.args.self.now c.args.packed.now c.args.mid.now c.requires.mid c.requires.within)

pub requeue_to-requires-clause-sleepers : goal.requeue_to-requires-clause-sleepers
requeue_to-requires-clause-sleepers c =
    subst (AreSleepers c.args.mid.now.places.items (suc c.args.from.0)) (sym c.as_slice.ensures.value)
    c.in_ok-sleepers.ensures
