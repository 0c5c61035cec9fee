use Rattle.std.proofs.Common.{◌≡◌, Some, slice_get}
use Rattle.image_search.specs.Kept.{IsApartIn}
use Rattle.image_search.proofs.Flagging.{holds_at}
use Rattle.image_search.proofs.apart.is_apart_at.Goals as goal

pub returns-in-Some-clause-apart : goal.returns-in-Some-clause-apart
returns-in-Some-clause-apart c = λ e.
    let p = c.args.image.now in
    let kept = c.args.kept.now in
    let x = c.in-Some.packed.now in
    let here : slice_get kept.states.items c.args.place ≡ Some x = rw c.in-Some.is at c.state.ensures in
    holds_at p kept c.args.place x (IsApartIn p kept.parts.alone) here (λ f. c.is_apart.ensures e)
