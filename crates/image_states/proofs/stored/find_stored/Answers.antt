use Rattle.std.proofs.Common.{length, refl}
use Rattle.std.proofs.lemmas.Option.{slice_get_read}
use Rattle.image_states.proofs.Storing.{stored_as}
use Rattle.image_states.proofs.stored.find_stored.Goals as goal

pub returns-then-is_of : goal.returns-then-is_of
returns-then-is_of c = λ memories are.
    let note = c.in-Some.note.now in
    let is = c.is_of.ensures c.if-is_of.true in
    let here = slice_get_read c.args.notes.now (length c.args.notes.now) c.place-at.result note refl
    c.in-Some.ensures.lookup.3.0 c.in-Some.ensures.lookup.1 in
    stored_as memories note c.args.before c.args.address c.args.word (are c.place-at.result note here is.0) is.1 is.2 is.3
