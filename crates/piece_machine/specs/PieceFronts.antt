-- The runs of the machine with pieces itself, in which each wake and each move takes from the front of the address's list,
-- and who sleeps may wake though nobody called for it, and a thread may be killed.
use Rattle.std.specs.Prelude.{ℕ, ◌≡◌, ◌<◌, ◌⊎◌, List, [], ◌∷◌, Ok, map}
use Rattle.isa.specs.Programs.{Program}
use Rattle.machine.specs.declared.event.Event.{Event}
use Rattle.machine.specs.FrontRuns.{EventStep, label_of, event_label}
use Rattle.machine.specs.PieceSteps.{PieceRun}
use Rattle.machine.specs.Runs.{Step}
use Rattle.piece_machine.specs.PieceConcrete.{PieceConcrete, pieces_at, opening_at, piece_of, stray_piece, kill_piece}
use Rattle.piece_machine.specs.PieceDetermined.{IsFit}

-- a wake or a kill of thread t from outside, with this event
abbrev pub OutsidePiece : Program → PieceConcrete → (t : ℕ) → Event → PieceConcrete → Type 0
OutsidePiece p k t event k' = (stray_piece k t ≡ Ok (k', event)) ⊎ (kill_piece p k t ≡ Ok (k', event))

-- its thread's own step, or a wake or a kill of it from outside
abbrev pub FrontPiece : Program → PieceConcrete → EventStep → PieceConcrete → Type 0
FrontPiece p k s k' = (piece_of p k s.thread ≡ Ok (k', s.event)) ⊎ OutsidePiece p k s.thread s.event k'

-- steps of the machine itself, one after another
abbrev pub FrontPieces : Program → PieceConcrete → List EventStep → PieceConcrete → Type 0
FrontPieces p k [] k' = k ≡ k'
FrontPieces p k (s ∷ steps) k' = (mid : PieceConcrete) × FrontPiece p k s mid × FrontPieces p mid steps k'

-- a run of the machine itself is a run of the relation, step by step: of the same threads, which wake the same, and with the
-- same wakes and kills from outside; and it keeps what always holds
abbrev pub PiecesRunSo : Type 0
PiecesRunSo =
    (p : Program) (n : ℕ) (k : PieceConcrete) (steps : List EventStep) → 0 < n
    → FrontPieces p (opening_at p n) steps k
    → (run : List Step) × PieceRun p n run (pieces_at k) × (map label_of run ≡ map event_label steps) × IsFit p k
