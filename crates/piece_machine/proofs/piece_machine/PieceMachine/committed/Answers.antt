-- The phase and the call tell where the thread has committed to sleep.
use Rattle.std.proofs.Common.{◌≡◌, None, sym, ap, ◌∙◌, subst}
use Rattle.machine.specs.PieceStates.{called, committed, committed_at}
use Rattle.piece_machine.specs.PieceViews.{PieceView, phase_in, pieces}
use Rattle.piece_machine.proofs.Committed.{none_committed}
use Rattle.piece_machine.proofs.piece_machine.PieceMachine.committed.Goals as goal

pub returns-then-not-is_made : goal.returns-then-not-is_made
returns-then-not-is_made c =
    let v = c.self.inside.machine in
    let ph = c.self.inside.phases in
    let t = c.args.t in
    subst (λ (q : PieceView). None ≡ committed q.view.program (pieces q) t) c.self.view_is
    (sym (ap (λ o. committed_at (phase_in ph t) (called v.program t o)) c.if-not-is_made.ensures
    ∙ none_committed (phase_in ph t)))
