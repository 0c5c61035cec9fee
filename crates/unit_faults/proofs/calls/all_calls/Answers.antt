use Rattle.std.proofs.Common.{◌<◌, ◌∙◌, ap, length, get_or, subst, arith}
use Rattle.callees.specs.Pieces.{piece_of}
use Rattle.unit_faults.proofs.Calling.{pieces_more}
use Rattle.unit_faults.proofs.Steps.{taken}
use Rattle.unit_faults.proofs.calls.all_calls.Goals as goal

pub loop-number-preserved : goal.loop-number-preserved
loop-number-preserved c u h =
    let i = c.loop-number.number in
    let p = c.piece-item.result in
    let ps = c.args.callees.now.pieces.items in
    let here : i < length ps = subst (λ xs. i < length xs) c.deref-piece-items.ensures.value c.loop-number-test.true in
    pieces_more u ps i p c.loop-number.calls.items c.push_calls.new.calls.items here
    (c.piece-item.is ∙ ap (λ xs. get_or xs i p) c.deref-piece-items.ensures.value)
    (taken piece_of ps i (omega (arith, here))) (c.loop-number.invariant u h) (c.in_ok-push_calls.ensures u h)
