-- What a complete search without a find says: of all runs in pieces, over any number of buckets, whoever is woken.
use Rattle.std.specs.Prelude.{ℕ, ◌<◌, List}
use Rattle.isa.specs.Programs.{Program}
use Rattle.machine.specs.PieceStates.{PieceState}
use Rattle.machine.specs.PieceSteps.{NextPieceIsBroken, PieceRun}
use Rattle.machine.specs.Runs.{Step}
use Rattle.proof_image_search.specs.Searching.{AreFrom, HasFailed, IsStuckInPieces, May}

-- no run with no more from outside than may be comes to where no thread can move and some thread has not ended
abbrev pub NeverStuck : Program → May → Type 0
NeverStuck p may = (buckets : ℕ) (steps : List Step) (s : PieceState) → 0 < buckets → PieceRun p buckets steps s
    → AreFrom may steps → IsStuckInPieces p s → ⊥

-- nor to where a thread dies of a fault
abbrev pub NeverFails : Program → May → Type 0
NeverFails p may = (buckets : ℕ) (steps : List Step) (s : PieceState) → 0 < buckets → PieceRun p buckets steps s
    → AreFrom may steps → HasFailed s.base → ⊥

-- nor to where a thread's next step may not be
abbrev pub NeverBreaks : Program → May → Type 0
NeverBreaks p may = (buckets : ℕ) (steps : List Step) (s : PieceState) → 0 < buckets → PieceRun p buckets steps s
    → AreFrom may steps → (t : ℕ) → NextPieceIsBroken p s t → ⊥
