-- What comes of a piece of a futex call, with the lists that were lent to it.
use Rattle.futexcalls.specs.declared.lists.FutexLists.{FutexLists}
use Rattle.futexcalls.specs.declared.pieces.FutexPhase.{FutexPhase}
use Rattle.futexcalls.specs.declared.progress.FutexAnswer.{FutexAnswer}
use Rattle.futexcalls.specs.declared.progress.FutexAnswer.TheVariants as answers
use Rattle.futexcalls.specs.declared.progress.FutexProgress.{FutexProgress}
use Rattle.futexcalls.specs.declared.progress.FutexProgress.TheVariants as progresses

-- the answer of a call, with whom it woke and whom it moved where it has acted
pub data PieceAnswer : Type 0 where
  Again : PieceAnswer
  Acted : FutexLists → PieceAnswer

-- what comes of a piece
pub data PieceProgress : Type 0 where
  Next : FutexPhase → PieceProgress
  Blocked : PieceProgress
  Done : PieceAnswer → PieceProgress

-- an answer beside the lists
abbrev pub answered : FutexAnswer → FutexLists → PieceAnswer
answered answers.Again lists = Again
answered answers.Acted lists = Acted lists

-- progress beside the lists
abbrev pub progressed : FutexProgress → FutexLists → PieceProgress
progressed (progresses.Next phase) lists = Next phase
progressed progresses.Blocked lists = Blocked
progressed (progresses.Done answer) lists = Done (answered answer lists)
