-- What a killed process leaves behind, by what its thread's exit finds at the pending entry.
use Rattle.std.specs.Prelude.{ℕ, ◌<◌, ◌++◌, List, [], ◌∷◌, length, Option, Some, None}
use Rattle.program.specs.Trees.{Program}
use Rattle.meaning.specs.Processes.{without_monitor}
use Rattle.protocol.specs.Points.{Entry, NoEntry, Owned, Unowned}

-- the monitor that the exit abandons last: the pending one, where the thread owns it
abbrev pub last_of : Entry → Option ℕ
last_of NoEntry = None
last_of (Owned m) = Some m
last_of (Unowned m) = None

-- the monitors of a robust list in the order in which its exit abandons them
abbrev pub left_of : (last : Option ℕ) → List ℕ → List ℕ
left_of None ms = ms
left_of (Some m) ms = without_monitor m ms ++ m ∷ []

-- a pending monitor is one of the program
abbrev pub IsOfProgram : Program → Entry → Type 0
IsOfProgram p NoEntry = Unit {0}
IsOfProgram p (Owned m) = m < length p.monitors
IsOfProgram p (Unowned m) = m < length p.monitors
