use Rattle.std.proofs.Common.{◌≡◌, ◌∙◌, None, ap, slice_get, suc, sym, Some}
use Rattle.std.proofs.lemmas.Bool.{eqb-true}
use Rattle.proof_image_search.specs.Searching.{Kept}
use Rattle.image_states.specs.Packed.{place_of}
use Rattle.image_search.proofs.Flagging.{holds_at}
use Rattle.image_search.proofs.living.is_awake.Goals as goal

pub returns-in-Some : goal.returns-in-Some
returns-in-Some c = λ e p.
    let kept = c.args.kept.now in
    let x = c.in-Some.packed.now in
    let here : slice_get kept.states.items c.args.place ≡ Some x = rw c.in-Some.is at c.state.ensures in
    holds_at p kept c.args.place x (λ (r : Kept). r.state.asleep (suc c.args.k) ≡ None) here
    (ap place_of (sym c.place.ensures ∙ eqb-true c.place.result 0 e))
