-- What a thread does after its entry, where its piece is begun anew in its place.
use Rattle.std.specs.Prelude.{ℕ, ◌≡◌, true, false}
use Rattle.machine.specs.States.{thread_of}
use Rattle.machine.specs.Runs.{has_ended}
use Rattle.machine.specs.ConcreteSteps.{can_move}
use Rattle.piece_machine.specs.PieceConcrete.{PieceConcrete}
use Rattle.runner.specs.declared.next.After.{After}
use Rattle.runner.specs.declared.next.After.TheVariants.{Goes, Sleeps, Ends}
use Rattle.runner.specs.Entries.{Begins}
use Rattle.runner.specs.Views.{PieceView}

-- it goes on with its piece where it can move, though a held bucket may be in its way; it is over where it has ended; else
-- it sleeps
abbrev pub IsAfter : PieceConcrete → ℕ → PieceView → After → Type 0
IsAfter k t piece Goes = (can_move k.concrete t ≡ true) × Begins k t piece
IsAfter k t piece Sleeps = (can_move k.concrete t ≡ false) × (has_ended (thread_of k.concrete t) ≡ false)
IsAfter k t piece Ends = has_ended (thread_of k.concrete t) ≡ true
