use Rattle.std.proofs.Common.{◌≡◌, ◌∙◌, Some, ap, slice_get, suc, sym}
use Rattle.image_states.specs.Packed.{place_of}
use Rattle.image_search.specs.Living.{SleepsAt}
use Rattle.image_search.proofs.Flagging.{holds_at, place_some}
use Rattle.image_search.proofs.closing.is_asleep.Goals as goal

pub returns-in-Some : goal.returns-in-Some
returns-in-Some c = λ e p.
    let kept = c.args.kept.now in
    let x = c.in-Some.packed.now in
    let here : slice_get kept.states.items c.args.place ≡ Some x = rw c.in-Some.is at c.state.ensures in
    let some = place_some c.place.result e in
    holds_at p kept c.args.place x (SleepsAt (suc c.args.k)) here
    (some.0, ap place_of (sym c.place.ensures) ∙ some.1)
