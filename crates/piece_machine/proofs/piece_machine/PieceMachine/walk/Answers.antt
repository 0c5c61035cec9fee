-- Local steps and an access in place are steps in pieces, and what is kept is kept.
use Rattle.std.proofs.Common.{◌≡◌, true, ap, sym, subst, ◌∙◌}
use Rattle.machine.specs.ConcreteSteps.{can_move}
use Rattle.machine.specs.Views.{concrete}
use Rattle.piece_machine.specs.PieceViews.{PieceView, WalksFrom}
use Rattle.piece_machine.proofs.Accessed.{walk_done, walk_kept, walk_program}
use Rattle.piece_machine.proofs.piece_machine.PieceMachine.walk.Goals as goal

pub invariant_of-self : goal.invariant_of-self
invariant_of-self c =
    let v = c.self.inside.machine in
    let can = subst (λ (q : PieceView). can_move (concrete q.view) c.args.t ≡ true) (sym c.self.view_is) c.requires in
    let w = c.walk in
    walk_kept v w.new.self c.self.inside.phases c.args.t c.args.budget w.result.0 w.result.1 c.self.invariant can
    w.ensures.walks

pub returns-clause-walks : goal.returns-clause-walks
returns-clause-walks c =
    let v = c.self.inside.machine in
    let ph = c.self.inside.phases in
    let w = c.walk in
    subst (λ (q : PieceView). WalksFrom q c.args.t c.args.budget w.result.0 w.result.1
    (record { view = w.new.self; phases = ph })) c.self.view_is
    (walk_done v w.new.self ph c.args.t c.args.budget w.result.0 w.result.1 w.ensures.walks)

pub returns-clause-program : goal.returns-clause-program
returns-clause-program c =
    let w = c.walk in
    walk_program c.self.inside.machine w.new.self c.args.t c.args.budget w.result.0 w.result.1 w.ensures.walks
    ∙ ap (λ (q : PieceView). q.view.program) c.self.view_is
