-- All phases are the first, and who holds a bucket is within a call.
use Rattle.std.proofs.Common.{◌≡◌, ℕ, Option, Some, None, refl, ap, subst}
use Rattle.std.proofs.lemmas.Bool.{both_ways}
use Rattle.isa.specs.Programs.{Program}
use Rattle.buckets.specs.Places.{names}
use Rattle.futexcalls.specs.declared.pieces.FutexPhase.{FutexPhase}
use Rattle.futexcalls.specs.declared.pieces.FutexPhase.TheVariants.{First}
use Rattle.futexcalls.specs.Pieces.{held_at}
use Rattle.machine.specs.PieceStates.{PieceState, IsHeldRight, called}
use Rattle.piece_machine.specs.PieceViews.{PieceView, pieces}
use Rattle.piece_machine.proofs.piece_machine.PieceMachine.holds_none.Goals as goal

-- who is outside calls holds nothing
outside_by : (p : Program) (s : PieceState) (b u : ℕ) → IsHeldRight p s → s.holder b ≡ Some u → s.phase u ≡ First → ⊥
outside_by p s b u right holds first =
    both_ways (names (held_at s.buckets (s.phase u) (called p u (s.base.thread u))) b)
    (ap (λ (f : FutexPhase). names (held_at s.buckets f (called p u (s.base.thread u))) b) first)
    (right.right b u holds)

none_holds : (p : Program) (s : PieceState) → IsHeldRight p s → ((u : ℕ) → s.phase u ≡ First) → (b : ℕ)
    → s.holder b ≡ None
none_holds p s right outside b = by (s.holder b) refl
  where
    by : (o : Option ℕ) → s.holder b ≡ o → o ≡ None
    by None is = refl
    by (Some u) is = absurd (outside_by p s b u right is (outside u))

pub returns : goal.returns
returns c = λ is.
    subst (λ (q : PieceView). (b : ℕ) → (pieces q).holder b ≡ None) c.self.view_is
    (none_holds c.self.inside.machine.program (pieces (record { view = c.self.inside.machine; phases = c.self.inside.phases }))
    c.self.invariant.right (c.all_first.ensures is))
