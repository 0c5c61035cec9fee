-- None is counted.
use Rattle.std.proofs.Common.{◌≡◌, ℕ, List, subst, arith}
use Rattle.futexcalls.specs.declared.pieces.FutexPhase.{FutexPhase}
use Rattle.futexcalls.specs.declared.pieces.FutexPhase.TheVariants.{First}
use Rattle.piece_machine.specs.PieceViews.{phase_in}
use Rattle.piece_machine.proofs.Counts.{none_within}
use Rattle.piece_machine.proofs.phases.Phases.all_first.Goals as goal

pub returns : goal.returns
returns c = λ is.
    subst (λ (phases : List FutexPhase). (t : ℕ) → phase_in phases t ≡ First) c.self.view_is
    (none_within c.self.inside.of_threads.items (search arith))
