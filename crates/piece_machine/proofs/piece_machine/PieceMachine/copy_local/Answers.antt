-- Where local steps led is where a run in pieces leads too.
use Rattle.std.proofs.Common.{◌≡◌, true, subst, sym}
use Rattle.machine.specs.ConcreteSteps.{can_move}
use Rattle.machine.specs.Views.{concrete}
use Rattle.piece_machine.specs.PieceViews.{PieceView, GoesTo}
use Rattle.piece_machine.proofs.Locally.{local_put}
use Rattle.piece_machine.proofs.piece_machine.PieceMachine.copy_local.Goals as goal

pub invariant_of-self : goal.invariant_of-self
invariant_of-self c =
    let v = c.self.inside.machine in
    let ph = c.self.inside.phases in
    let can = subst (λ (q : PieceView). can_move (concrete q.view) c.args.t ≡ true) (sym c.self.view_is)
    c.requires.can_move in
    let goes = subst (λ (q : PieceView). GoesTo q.view c.args.t c.args.local.now) (sym c.self.view_is) c.requires.goes in
    local_put v c.copy_local.new.self ph c.args.t c.args.local.now c.self.invariant can goes c.copy_local.ensures
