use Rattle.image_states.proofs.Within.{places_few, thread_few}
use Rattle.image_states.proofs.parts.Parts.push_leaving.Goals as goal

pub can_leave-requires-clause-few : goal.can_leave-requires-clause-few
can_leave-requires-clause-few c =
    thread_few c.args.self.now c.args.packed.now c.requires.within c.args.k c.args.t c.requires.number c.requires.made

pub can_leave-requires-clause-places : goal.can_leave-requires-clause-places
can_leave-requires-clause-places c = places_few c.args.self.now c.args.packed.now c.requires.within
