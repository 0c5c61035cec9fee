-- Who can take a step was made, and so was asked; and at rest nobody holds a bucket.
use Rattle.std.proofs.Common.{◌≡◌, ◌+◌, ℕ, length, inl, inr, refl, ap, subst, arith}
use Rattle.std.proofs.lemmas.Bool.{cases_eq}
use Rattle.machine.specs.PieceSteps.{CanTakePiece}
use Rattle.machine.specs.PieceStates.{IsHeldRight}
use Rattle.machine.specs.Views.{concrete, IsWellFormed}
use Rattle.proof_pieces.proofs.Rests.{rests}
use Rattle.piece_machine.specs.PieceViews.{PieceView, pieces}
use Rattle.piece_machine.proofs.Blocked.{mover_made}
use Rattle.piece_machine.proofs.piece_machine.PieceMachine.quiet.Goals as goal

pub loop-t-preserved : goal.loop-t-preserved
loop-t-preserved c = λ u some few can. elim (cases_eq u (c.loop-t.t + 1)) [
  | inl e ↦ c.if-can_move.ensures.exact
      (subst (λ (j : ℕ). CanTakePiece c.args.self.now.view.program (pieces c.args.self.now) j) e can)
  | inr ne ↦ c.loop-t.invariant u some (omega (arith, few, ne)) can
]

pub returns-clause-value : goal.returns-clause-value
returns-clause-value c = λ t can.
    let s = c.args.self.now in
    let well = subst (λ (q : PieceView). IsWellFormed q.view.program (concrete q.view)) c.self.view_is
    c.self.invariant.well in
    let same : length c.self.inside.machine.threads ≡ length s.view.threads =
    ap (λ (q : PieceView). length q.view.threads) c.self.view_is in
    let place = mover_made s.view.program (concrete s.view) (pieces s) t well refl can in
    c.loop-t.invariant t (omega (arith, place.some))
    (omega (arith, place.few, same, c.loop-t-test.false, c.threads-t-end.ensures.value)) can

pub returns-clause-free : goal.returns-clause-free
returns-clause-free c = λ e.
    let right = subst (λ (q : PieceView). IsHeldRight q.view.program (pieces q)) c.self.view_is c.self.invariant.right in
    (rests c.args.self.now.view.program (pieces c.args.self.now) right (returns-clause-value c)).0
