-- Local steps in place are steps in pieces.
use Rattle.std.proofs.Common.{◌≡◌, true, subst, sym}
use Rattle.machine.specs.ConcreteSteps.{can_move}
use Rattle.machine.specs.Views.{concrete}
use Rattle.piece_machine.specs.PieceViews.{PieceView}
use Rattle.piece_machine.proofs.Locally.{local_put}
use Rattle.piece_machine.proofs.piece_machine.PieceMachine.run_local.Goals as goal

pub invariant_of-self : goal.invariant_of-self
invariant_of-self c =
    let v = c.self.inside.machine in
    let ph = c.self.inside.phases in
    let can = subst (λ (q : PieceView). can_move (concrete q.view) c.args.t ≡ true) (sym c.self.view_is) c.requires in
    let r = c.run_local.ensures.runs in
    local_put v c.run_local.new.self ph c.args.t r.here c.self.invariant can
    (record { origin = r.origin; count = c.run_local.result; stands = r.stands; goes = r.goes }) r.after
