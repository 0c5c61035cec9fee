-- A wake takes one bucket, and compares nothing.
use Rattle.std.proofs.Common.{◌≡◌, inl, inr, sym, ◌∙◌, subst}
use Rattle.buckets.specs.Sleepers.{bucket_count}
use Rattle.futexcalls.specs.Pieces.{IsPhase}
use Rattle.futexcalls.specs.declared.pieces.FutexCall.{FutexCall}
use Rattle.futexcalls.specs.declared.pieces.FutexCall.TheVariants.{Wake}
use Rattle.futexcalls.specs.declared.pieces.FutexPhase.{FutexPhase}
use Rattle.futexcalls.specs.declared.pieces.FutexPhase.TheVariants.{First, Second, Compare}
use Rattle.machine.specs.ConcretePieces.{pieces_of, MakesCall}
use Rattle.piece_machine.specs.PieceViews.{PieceView, phase_in}
use Rattle.piece_machine.proofs.OwnCalls.{stands_in}
use Rattle.piece_machine.proofs.piece_machine.PieceMachine.wake_step.Goals as goal

not_first : First ≡ Second → ⊥
not_first is = absurd cc

not_compare : First ≡ Compare → ⊥
not_compare is = absurd cc

pub unreachable-requires : goal.unreachable-requires
unreachable-requires c =
    let v = c.self.inside.machine in
    let ph = c.self.inside.phases in
    let call : FutexCall = Wake c.args.address c.args.wakes in
    let m = subst (λ (q : PieceView). MakesCall q.view c.args.t call) (sym c.self.view_is) c.requires.makes in
    let stands = stands_in v.program (pieces_of v (phase_in ph)) c.args.t m.thread call m.go c.self.invariant.right
    m.stands m.asks in
    elim stands [
      | inl f ↦ elim c.in-Second.is [
        | inl s ↦ not_first (sym f ∙ sym c.at.ensures ∙ s)
        | inr s ↦ not_compare (sym f ∙ sym c.at.ensures ∙ s)
      ]
      | inr w ↦ elim c.in-Second.is [
        | inl s ↦ subst (λ (g : FutexPhase). IsPhase (bucket_count v.sleepers) g call) (sym c.at.ensures ∙ s) w.0
        | inr s ↦ subst (λ (g : FutexPhase). IsPhase (bucket_count v.sleepers) g call) (sym c.at.ensures ∙ s) w.0
      ]
    ]
