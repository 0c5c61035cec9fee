use Rattle.std.proofs.Common.{◌≡◌, ◌<◌, ◌-◌, add-one, arith, length, refl}
use Rattle.std.proofs.lemmas.Option.{slice_get_read}
use Rattle.words.specs.Limits.{most_local_steps}
use Rattle.workers.proofs.Turning.{one_more_turn}
use Rattle.workers.proofs.turns.take_turns.Goals as goal

pub loop-pieces-preserved : goal.loop-pieces-preserved
loop-pieces-preserved g c =
    let n = c.loop-pieces.taken in
    let v = c.loop-pieces.invariant in
    let xs = c.loop-pieces.pieces.items in
    let zs = c.follow.new.pieces.items in
    let last = c.index.result.now in
    let begun = c.index_mut-in-loop-pieces.result.now in
    let turn = c.take_turn-in-loop-pieces in
    let has = c.if-has_piece.ensures in
    let some : n - 1 < length xs = omega (arith, v.some, v.within) in
    let there : n < length zs = omega (arith, c.follow.ensures.same_length, has.0) in
    let whole : last.count ≡ most_local_steps = omega (arith, c.count.ensures) in
    rw (add-one n)
    (one_more_turn g.J.RunName.program c.args.t c.args.pieces.now.items xs c.has_piece.new.pieces.items zs n last begun
    turn.new.piece v (slice_get_read xs _ (n - 1) last refl some c.index.ensures) whole has.2 c.follow.ensures
    (slice_get_read zs _ n begun refl there c.index_mut-in-loop-pieces.ensures.value) turn.ensures.same
    turn.ensures.turn)
