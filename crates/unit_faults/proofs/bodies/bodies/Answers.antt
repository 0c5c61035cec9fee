use Rattle.std.proofs.Common.{◌≡◌, ◌<◌, ◌≤◌, ◌∙◌, ap, subst, length, get_or}
use Rattle.std.specs.List.{Contains}
use Rattle.callees.specs.Pieces.{piece_of}
use Rattle.unit_faults.specs.Collected.{Collects, InOne}
use Rattle.unit_faults.specs.Parts.{InStatements}
use Rattle.unit_faults.proofs.Uses.{one_next, one_end, listed}
use Rattle.unit_faults.proofs.bodies.bodies.Goals as goal

pub loop-piece-preserved : goal.loop-piece-preserved
loop-piece-preserved c u h =
    let i = c.loop-piece.piece-index in
    let p = c.piece-item.result in
    let ps = c.args.callees.now.pieces.items in
    let same = c.deref-piece-items.ensures.value in
    let within : i < length ps = subst (λ xs. i < length xs) same c.loop-piece-test.true in
    let is : p ≡ get_or ps i p = c.piece-item.is ∙ ap (λ xs. get_or xs i p) same in
    one_next piece_of (InStatements u) ps i p c.args.least c.loop-piece.least c.in_ok-least.least within is
    (c.loop-piece.invariant u h)
    (c.in_ok-least.ensures u h (subst (λ qs. Contains qs (piece_of p)) h.pieces (listed piece_of ps i p within is)))

pub returns : goal.returns
returns c u h =
    let ps = c.args.callees.now.pieces.items in
    subst (λ qs. Collects (InOne (InStatements u) qs) c.args.least c.loop-piece.least) h.pieces
    (one_end piece_of (InStatements u) ps c.loop-piece.piece-index c.args.least c.loop-piece.least
    (subst (λ xs. length xs ≤ c.loop-piece.piece-index) c.deref-piece-items.ensures.value c.loop-piece-test.false)
    (c.loop-piece.invariant u h))
