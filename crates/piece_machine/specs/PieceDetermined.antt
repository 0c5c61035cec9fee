-- The steps of the machine with pieces, as functions, are those of the relation.
use Rattle.std.specs.Prelude.{ℕ, ◌≡◌, ◌↔◌, true, Ok, Err}
use Rattle.isa.specs.Programs.{Program}
use Rattle.machine.specs.declared.event.Event.{Event}
use Rattle.machine.specs.declared.event.StepFault.TheVariants.{CannotMove, Broken}
use Rattle.machine.specs.PieceStates.{IsHeldRight, opening_pieces}
use Rattle.machine.specs.PieceSteps.{CanTakePiece, NextPieceIsBroken}
use Rattle.machine.specs.Views.{IsWellFormed}
use Rattle.piece_machine.specs.PieceViews.{Steps, Strays, Kills, RefusesStray, RefusesPieceKill}
use Rattle.piece_machine.specs.PieceConcrete.{PieceConcrete, pieces_at, opening_at, piece_of, can_take, stray_piece}
use Rattle.piece_machine.specs.PieceConcrete.{kill_piece}

-- what always holds of it
pub record IsFit (p : Program) (k : PieceConcrete) : Type 0 where
  pub well : IsWellFormed p k.concrete
  pub right : IsHeldRight p (pieces_at k)

-- a step that is done is one of the relation, told so, and keeps what always holds
abbrev pub PieceStepsSo : Type 0
PieceStepsSo =
    (p : Program) (k k' : PieceConcrete) (t : ℕ) (e : Event) → IsFit p k → piece_of p k t ≡ Ok (k', e)
    → Steps p (pieces_at k) t e (pieces_at k') × IsFit p k'

-- a step is Broken exactly where the thread's next step may not be
abbrev pub PieceBreaksSo : Type 0
PieceBreaksSo = (p : Program) (k : PieceConcrete) (t : ℕ) → IsFit p k
    → (piece_of p k t ≡ Err Broken) ↔ NextPieceIsBroken p (pieces_at k) t

-- a step is refused with CannotMove exactly where the thread can't take a piece
abbrev pub PieceRefusesSo : Type 0
PieceRefusesSo = (p : Program) (k : PieceConcrete) (t : ℕ) → IsFit p k
    → (piece_of p k t ≡ Err CannotMove) ↔ (CanTakePiece p (pieces_at k) t → ⊥)

-- a thread can take a piece exactly where it is said to
abbrev pub TakesSo : Type 0
TakesSo = (p : Program) (k : PieceConcrete) (t : ℕ) → (can_take p k t ≡ true) ↔ CanTakePiece p (pieces_at k) t

-- a wake from outside is one of the relation, and is refused exactly where the thread doesn't sleep
abbrev pub PieceStraysSo : Type 0
PieceStraysSo =
    (p : Program) (k k' : PieceConcrete) (t : ℕ) (e : Event) → IsFit p k → stray_piece k t ≡ Ok (k', e)
    → Strays p (pieces_at k) t e (pieces_at k') × IsFit p k'

abbrev pub PieceStrayRefusedSo : Type 0
PieceStrayRefusedSo = (k : PieceConcrete) (t : ℕ)
    → (stray_piece k t ≡ Err CannotMove) ↔ RefusesStray (pieces_at k) t CannotMove

-- a kill is one of the relation, and is refused exactly where no such thread was made
abbrev pub PieceKillsSo : Type 0
PieceKillsSo =
    (p : Program) (k k' : PieceConcrete) (t : ℕ) (e : Event) → IsFit p k → kill_piece p k t ≡ Ok (k', e)
    → Kills p (pieces_at k) t e (pieces_at k') × IsFit p k'

abbrev pub PieceKillRefusedSo : Type 0
PieceKillRefusedSo = (p : Program) (k : PieceConcrete) (t : ℕ)
    → (kill_piece p k t ≡ Err CannotMove) ↔ RefusesPieceKill (pieces_at k) t CannotMove

-- the opening state stands for the relation's
abbrev pub PiecesOpenSo : Type 0
PiecesOpenSo = (p : Program) (n : ℕ) → pieces_at (opening_at p n) ≡ opening_pieces p n
