-- The bucket that the call takes next is in the way where it has a holder.
use Rattle.std.proofs.Common.{◌≡◌, ℕ, Bool, Option, Some, None, is_some, sym, ap, ◌∙◌}
use Rattle.std.proofs.Common.{subst}
use Rattle.std.specs.Prelude.{MatchBool}
use Rattle.futexcalls.specs.declared.pieces.FutexCall.{FutexCall}
use Rattle.futexcalls.specs.Pieces.{takes_at, LiesIn}
use Rattle.machine.specs.ConcretePieces.{pieces_of}
use Rattle.machine.specs.PieceStates.{PieceState}
use Rattle.machine.specs.PieceSteps.{BlocksCall}
use Rattle.piece_machine.specs.PieceViews.{PieceView, pieces, phase_in}
use Rattle.piece_machine.proofs.piece_machine.PieceMachine.waits_for_bucket.Goals as goal

one_bucket : (a b : ℕ) → Some a ≡ Some b → a ≡ b
one_bucket a b h = cc

by_holder : (s : PieceState) (t b : ℕ) (call : FutexCall) (o : Option ℕ) → LiesIn s.base.size call
    → takes_at s.buckets (s.phase t) call ≡ Some b → s.holder b ≡ o
    → MatchBool (is_some o) (BlocksCall s t (Some call)) (BlocksCall s t (Some call) → ⊥)
by_holder s t b call None lies takes free = λ w.
    let other : b ≡ w.1 = one_bucket b w.1 (sym takes ∙ w.3) in
    let e : None ≡ Some w.2 = sym free ∙ ap s.holder other ∙ w.4 in cc
by_holder s t b call (Some u) lies takes holds = (lies, b, u, takes, holds)

pub returns-in-Some : goal.returns-in-Some
returns-in-Some c =
    let v = c.self.inside.machine in
    let ph = c.self.inside.phases in
    let t = c.args.t in
    let call = c.args.call in
    let s = pieces_of v (phase_in ph) in
    subst (λ (q : PieceView). MatchBool c.is_some.result (BlocksCall (pieces q) t (Some call))
    (BlocksCall (pieces q) t (Some call) → ⊥)) c.self.view_is
    (subst (λ (b : Bool). MatchBool b (BlocksCall s t (Some call)) (BlocksCall s t (Some call) → ⊥))
    (sym c.is_some.ensures)
    (by_holder s t c.in-Some.bucket call c.holder.result c.if-not-has_words.ensures
    (ap (λ f. takes_at s.buckets f call) (sym c.at.ensures) ∙ sym c.in-Some.ensures) (sym c.holder.ensures)))
