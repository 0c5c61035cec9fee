-- A thread that can move takes a step, unless a held bucket is in its way.
use Rattle.std.proofs.Common.{◌≡◌, true, sym, ◌∙◌, subst}
use Rattle.machine.specs.ConcreteSteps.{can_move}
use Rattle.machine.specs.Views.{concrete}
use Rattle.piece_machine.specs.PieceViews.{PieceView, parts}
use Rattle.piece_machine.proofs.Wanted.{take_is}
use Rattle.piece_machine.proofs.piece_machine.PieceMachine.can_move.Goals as goal

pub returns-then-can_move-clause-value : goal.returns-then-can_move-clause-value
returns-then-can_move-clause-value c =
    let s = c.args.self.now in
    let can = subst (λ (q : PieceView). can_move (concrete q.view) c.args.t ≡ true) c.self.view_is
    (sym c.can_move.ensures ∙ c.if-can_move.true) in
    take_is s.view.program (parts s) c.args.t c.is_blocked.result can c.is_blocked.ensures
