-- What a thread does after its entry.
use Rattle.std.specs.Prelude.{ℕ, ◌≡◌, true, false}
use Rattle.machine.specs.States.{thread_of}
use Rattle.machine.specs.Runs.{has_ended}
use Rattle.machine.specs.ConcreteSteps.{can_move}
use Rattle.piece_machine.specs.PieceConcrete.{PieceConcrete}
use Rattle.runner.specs.declared.next.Next.{Next}
use Rattle.runner.specs.declared.next.Next.TheVariants.{Go, Sleep, End}
use Rattle.runner.specs.Entries.{Begins}

-- it goes on with its piece where it can move, though a held bucket may be in its way; it is over where it has ended; else
-- it sleeps
abbrev pub IsNext : {J : Type 0} → PieceConcrete → ℕ → Next J → Type 0
IsNext k t (Go piece) = (can_move k.concrete t ≡ true) × Begins k t piece
IsNext k t Sleep = (can_move k.concrete t ≡ false) × (has_ended (thread_of k.concrete t) ≡ false)
IsNext k t End = has_ended (thread_of k.concrete t) ≡ true
