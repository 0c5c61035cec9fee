-- What is true of the machine with calls in pieces.
use Rattle.std.specs.Prelude.{ℕ, ◌<◌, ◌≡◌, ◌⊎◌, ◌↔◌, MatchBool, Some, None, List, []}
use Rattle.isa.specs.Programs.{Program}
use Rattle.machine.specs.States.{opening_state}
use Rattle.machine.specs.Runs.{Step, Own, CanStep, NextIsBroken}
use Rattle.machine.specs.PieceStates.{PieceState, IsHeldRight, IsWithin}
use Rattle.machine.specs.PieceSteps.{IsOwnPiece, IsPieceStep, PieceRun, CanTakePiece, NextPieceIsBroken}
use Rattle.proof_pieces.specs.Silence.{IsHushed, IsHeard, is_silent, piece_answer}
use Rattle.proof_pieces.specs.Traces.{Trace, none_taken}
use Rattle.proof_pieces.specs.Whole.{whole}
use Rattle.proof_pieces.specs.WholeCalls.{IsWholeDone}

-- each step keeps that buckets are held as the phases say
abbrev pub HeldSo : Type 0
HeldSo = (p : Program) (s s' : PieceState) (step : Step) → IsHeldRight p s → IsPieceStep p s step s' → IsHeldRight p s'

-- each step is silent, one of its thread's own that wakes nobody and behind which the whole is as it was; or it is one
-- step of the whole calls, by the same thread, which wakes the same
abbrev pub ReducesSo : Type 0
ReducesSo = (p : Program) (s s' : PieceState) (step : Step) → IsHeldRight p s → IsPieceStep p s step s'
    → ((step.doing ≡ Own) × (step.woken ≡ []) × (whole p s' ≡ whole p s))
    ⊎ IsWholeDone p (whole p s) step (whole p s') step.doing

-- which of the two a thread's own piece is, and with which answer; each in time
abbrev pub TellsSo : Type 0
TellsSo = (p : Program) (s s' : PieceState) (step : Step) → IsHeldRight p s → (own : IsOwnPiece p s step s')
    → MatchBool (is_silent p s step.thread own.thread step.woken s' own.piece) (IsHushed p s step s')
    (IsHeard p s step own.thread (piece_answer p s step.thread own.thread step.woken s' own.piece) s')

-- each run in pieces, with any number of buckets, is a trace of steps with whole calls
abbrev pub RunsSo : Type 0
RunsSo = (p : Program) (n : ℕ) (steps : List Step) (s : PieceState) → 0 < n → PieceRun p n steps s
    → IsHeldRight p s × Trace p (opening_state p) none_taken steps (whole p s)

-- where no thread can take a step no bucket is held, the whole is the machine's state, and no thread can step in it
abbrev pub RestsSo : Type 0
RestsSo = (p : Program) (s : PieceState) → IsHeldRight p s → ((t : ℕ) → CanTakePiece p s t → ⊥)
    → ((b : ℕ) → s.holder b ≡ None) × (whole p s ≡ s.base) × ((t : ℕ) → CanStep (whole p s) t → ⊥)

-- where a bucket is held, some thread within a call can take its next step
abbrev pub GoesOn : Type 0
GoesOn = (p : Program) (s : PieceState) (b u : ℕ) → IsHeldRight p s → s.holder b ≡ Some u
    → (t : ℕ) × IsWithin p s t × CanTakePiece p s t

-- a thread's next step may not be in pieces just where it may not be in the whole
abbrev pub BreaksBoth : Type 0
BreaksBoth = (p : Program) (s : PieceState) (t : ℕ) → IsHeldRight p s
    → NextPieceIsBroken p s t ↔ NextIsBroken p (whole p s) t

-- who sleeps sleeps in the whole
abbrev pub SleepsSo : Type 0
SleepsSo = (p : Program) (s : PieceState) (t a : ℕ) → s.base.asleep t ≡ Some a → (whole p s).asleep t ≡ Some a
