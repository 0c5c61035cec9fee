use Rattle.std.proofs.Common.{◌≡◌, All, None, Some, slice_get, subst}
use Rattle.proof_image_search.specs.Searching.{Kept}
use Rattle.image_search.proofs.Flagging.{holds_at, none_asleep}
use Rattle.image_search.proofs.at_once.none_sleeps.Goals as goal

pub returns-in-Some : goal.returns-in-Some
returns-in-Some c = λ e p t.
    let kept = c.args.kept.now in
    let x = c.in-Some.packed.now in
    let here : slice_get kept.states.items c.args.place ≡ Some x = rw c.in-Some.is at c.state.ensures in
    holds_at p kept c.args.place x (λ (r : Kept). r.state.asleep t ≡ None) here
    (none_asleep x.places.items (subst (All (λ n. n ≡ 0)) c.as_slice.ensures.value (c.are_zero.ensures e)) t)
