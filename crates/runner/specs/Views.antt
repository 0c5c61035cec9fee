-- What contracts see of a piece and of what is shared.
use Rattle.std.specs.Prelude.{ℕ, List}
use Rattle.locals.specs.Threads.{Thread}
use Rattle.machine.specs.declared.event.Entry.{Entry}
use Rattle.piece_machine.specs.PieceConcrete.{PieceConcrete}
use Rattle.piece_machine.specs.PieceViews.{PieceView as MachineView, parts}

-- a thread away from the machine: where it began, where it has come, and after how many local steps
pub record PieceView : Type 0 where
  pub thread : ℕ
  pub origin : Thread
  pub here : Thread
  pub count : ℕ

-- the log, and what the machine keeps
pub record LogState : Type 0 where
  pub log : List Entry
  pub concrete : PieceConcrete

-- the log beside the machine, as a value of the code, for how many more entries it has room, and how many parts of the
-- count of entries were given out
pub record SharedView : Type 0 where
  pub log : List Entry
  pub room : ℕ
  pub machine : MachineView
  pub given : ℕ

-- how many parts of the count of entries a share has, and how many entries it counted
pub record ShareView : Type 0 where
  pub parts : ℕ
  pub count : ℕ

-- the log and the machine
abbrev pub log_state : SharedView → LogState
log_state s = record { log = s.log; concrete = parts s.machine }
