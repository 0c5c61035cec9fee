-- Only a requeue takes a second bucket.
use Rattle.std.proofs.Common.{◌≡◌, inl, inr, sym, ◌∙◌, subst}
use Rattle.buckets.specs.Sleepers.{bucket_count}
use Rattle.futexcalls.specs.Pieces.{IsPhase}
use Rattle.futexcalls.specs.declared.pieces.FutexCall.{FutexCall}
use Rattle.futexcalls.specs.declared.pieces.FutexCall.TheVariants.{Wait}
use Rattle.futexcalls.specs.declared.pieces.FutexPhase.{FutexPhase}
use Rattle.futexcalls.specs.declared.pieces.FutexPhase.TheVariants.{First, Second}
use Rattle.machine.specs.ConcretePieces.{pieces_of, MakesCall}
use Rattle.piece_machine.specs.PieceViews.{PieceView, phase_in}
use Rattle.piece_machine.proofs.OwnCalls.{stands_in}
use Rattle.piece_machine.proofs.piece_machine.PieceMachine.wait_step.Goals as goal

not_first : Second ≡ First → ⊥
not_first is = absurd cc

pub unreachable-requires : goal.unreachable-requires
unreachable-requires c =
    let v = c.self.inside.machine in
    let ph = c.self.inside.phases in
    let call : FutexCall = Wait c.args.address c.args.expected in
    let m = subst (λ (q : PieceView). MakesCall q.view c.args.t call) (sym c.self.view_is) c.requires.makes in
    let is : phase_in ph c.args.t ≡ Second = sym c.at.ensures ∙ c.in-Second.is in
    elim (stands_in v.program (pieces_of v (phase_in ph)) c.args.t m.thread call m.go c.self.invariant.right
    m.stands m.asks) [
      | inl f ↦ not_first (sym is ∙ f)
      | inr w ↦ subst (λ (g : FutexPhase). IsPhase (bucket_count v.sleepers) g call) is w.0
    ]
