use Rattle.image_states.proofs.Storing.{stored_free}
use Rattle.image_states.proofs.stored.make_room.Goals as goal

pub returns : goal.returns
returns c = λ memories are. stored_free memories c.in_ok-places.places.items c.in_ok-places.ensures
