-- Where no access came in the turns are as they were.
use Rattle.std.proofs.Common.{ℕ, List, subst, sym}
use Rattle.runner.specs.Views.{PieceView}
use Rattle.workers.specs.Taken.{AllTurns}
use Rattle.workers.proofs.pool.Pool.hand_in.Goals as goal

pub hand_in_any-handed-requires-after_bounds : goal.hand_in_any-handed-requires-after_bounds
hand_in_any-handed-requires-after_bounds g c κs within =
    let p = g.J.RunName.program in
    let same = c.hand_in_access.ensures.none c.if-hand_in_access.false in
    let turns = c.args.turns.now in
    let by_pieces = subst (λ (pieces : List PieceView). AllTurns p turns.taken pieces) (sym {A = List PieceView} same.3)
    c.requires in
    subst (λ (n : ℕ). AllTurns p n c.hand_in_access.new.turns.pieces.items) (sym {A = ℕ} same.2)
    by_pieces
