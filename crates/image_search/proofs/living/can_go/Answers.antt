use Rattle.std.proofs.Common.{◌≡◌, Some, slice_get, suc}
use Rattle.machine.specs.Runs.{CanStep}
use Rattle.image_states.specs.Packed.{unpacked}
use Rattle.image_search.proofs.Flagging.{can_go_so}
use Rattle.image_search.proofs.living.can_go.Goals as goal

pub returns-then-can_step : goal.returns-then-can_step
returns-then-can_step c = λ e.
    let p = c.args.image.now in
    let kept = c.args.kept.now in
    let x = c.in-Some-state.packed.now in
    let here : slice_get kept.states.items c.args.place ≡ Some x = rw c.in-Some-state.is at c.state.ensures in
    let can : CanStep (unpacked p kept.parts x) (suc c.args.k) = rw c.if-can_step.true at (c.can_step.ensures p) in
    can_go_so p kept c.args.place (suc c.args.k) x here can c.is_broken_at.result c.is_broken_at.ensures e
