-- What a program's things are called, for those who print them.
use Rattle.std.specs.Prelude.{ℕ, List, map}
use Rattle.program.specs.declared.checked.MonitorNames.{MonitorNames}
use Rattle.program.specs.declared.checked.Names.{Names}
use Rattle.program.specs.declared.unit.Program.{Program as ProgramOf}
use Rattle.program.specs.Trees.{Program}
use Rattle.program.specs.Views.{program_of}

-- the names of a monitor and of its members, each by its bytes
pub record MonitorNaming : Type 0 where
  pub name : List ℕ
  pub members : List (List ℕ)

-- the names of the monitors, in the order of their declarations
pub record Naming : Type 0 where
  pub monitors : List MonitorNaming

-- what a monitor and its members are called
abbrev pub monitor_naming_of : MonitorNames → MonitorNaming
monitor_naming_of m = record { name = m.name.now; members = map (λ n. n.now) m.members.items }

-- what a program's monitors and members are called
abbrev pub naming_of : Names → Naming
naming_of n = record { monitors = map monitor_naming_of n.monitors.items }

-- a checked program: the code's tree of it, and what its things are called
pub record CheckedProgram : Type 0 where
  pub tree : ProgramOf
  pub names : Naming

-- what a checked program says
abbrev pub said_by : CheckedProgram → Program
said_by c = program_of c.tree
