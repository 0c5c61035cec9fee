-- What it says of the source that threads have ended, or that none can move.
use Rattle.std.specs.Prelude.{ℕ, ◌≡◌, ◌⊎◌, Option, Some, None}
use Rattle.locals.specs.Threads.{Thread}
use Rattle.machine.specs.States.{State}
use Rattle.program.specs.Trees.{Program}
use Rattle.meaning.specs.Table.{HeldBy}
use Rattle.meaning.specs.Processes.{Process, Entering, Suspended, Joining}
use Rattle.meaning.specs.States.{SourceState}
use Rattle.proof_exploration.specs.Exploring.{IsOver, IsStuck}
use Rattle.refinement.specs.Refines.{Sleeps, HasEnded}

-- each thread that was made has ended
abbrev pub HaveEnded : State → Type 0
HaveEnded s = (t : ℕ) (x : Thread) → s.thread t ≡ Some x → HasEnded s t

-- each thread that was made sleeps or has ended
abbrev pub AreStill : State → Type 0
AreStill s = (t : ℕ) (x : Thread) → s.thread t ≡ Some x → Sleeps s t ⊎ HasEnded s t

-- each process that was made is over
abbrev pub AreOver : SourceState → Type 0
AreOver c = (q : ℕ) (at : Process) → c.process q ≡ Some at → IsOver at

-- a process holds the monitor
abbrev pub IsHeld : SourceState → ℕ → Type 0
IsHeld c m = (q : ℕ) × (c.table.hold m ≡ HeldBy q)

-- what process q waits for: to enter a monitor that is held; for a notify on its condition, or, behind one, to resume in
-- a monitor that is held; for the end of the process that it joins
abbrev pub WaitsFor : SourceState → ℕ → Process → Type 0
WaitsFor c q (Entering m f cs) = IsHeld c m
WaitsFor c q (Suspended d f cs) = (c.table.waits q ≡ Some d) ⊎ ((c.table.waits q ≡ None) × IsHeld c d.monitor)
WaitsFor c q (Joining child into part f cs) = c.table.over child ≡ None
WaitsFor c q other = ⊥

-- the source is stuck, and each process that isn't over waits
pub record IsHung (p : Program) (c : SourceState) : Type 0 where
  pub stuck : IsStuck p c
  pub waits : (q : ℕ) (at : Process) → c.process q ≡ Some at → IsOver at ⊎ WaitsFor c q at
