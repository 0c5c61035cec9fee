-- What always holds of the fields holds of what they stand for.
use Rattle.std.proofs.Common.{subst}
use Rattle.piece_machine.specs.PieceDetermined.{IsFit}
use Rattle.piece_machine.specs.PieceViews.{PieceView, pieces, parts, IsComeTo}
use Rattle.piece_machine.proofs.Owns.{kept_fit}
use Rattle.piece_machine.proofs.piece_machine.PieceMachine.machine.Goals as goal

pub returns-clause-come : goal.returns-clause-come
returns-clause-come c =
    subst (λ (q : PieceView). IsComeTo q.view.program (pieces q)) c.self.view_is c.self.invariant.come

pub returns-clause-fit : goal.returns-clause-fit
returns-clause-fit c =
    subst (λ (q : PieceView). IsFit q.view.program (parts q)) c.self.view_is
    (kept_fit c.self.inside.machine c.self.inside.phases c.self.invariant)
