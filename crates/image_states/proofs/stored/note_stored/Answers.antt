use Rattle.image_states.proofs.Storing.{stored_set}
use Rattle.image_states.proofs.stored.note_stored.Goals as goal

pub returns : goal.returns
returns c = λ memories are is. stored_set memories c.args.notes.now.items c.place-at.result _ are is
