-- The state that the code keeps, as a state of the meaning.
use Rattle.std.specs.Prelude.{ℕ, List, [], None, Option, map, option_map}
use Rattle.std.specs.Ordering.{nat_cmp}
use Rattle.sorted_map.specs.Maps.{get}
use Rattle.meaning.specs.Processes.{Process}
use Rattle.meaning.specs.States.{SourceState}
use Rattle.meaning.specs.Table.{Table}
use Rattle.meaning.specs.Values.{Variables}
use Rattle.source_offers.specs.declared.process.Process.{Process as ProcessOf}
use Rattle.source_offers.specs.Stages.{process_of}
use Rattle.source_offers.specs.Stores.{variables_of}
use Rattle.source_table.specs.Tables.{table_of}
use Rattle.source_states.specs.declared.state.SourceState.{SourceState as StateOf}

-- the process of each number
abbrev pub processes_in : List (ℕ × ProcessOf) → ℕ → Option Process
processes_in processes p = option_map process_of (get nat_cmp processes p)

-- the processes with their numbers
abbrev pub numbered : List (ℕ × ProcessOf) → List (ℕ × Process)
numbered processes = map (λ e. (e.0, process_of e.1)) processes

-- a state
abbrev pub state_of : StateOf → SourceState
state_of s = record {
  table = table_of s.table;
  variable = variables_of s.variables;
  process = processes_in s.processes;
  printed = s.printed.items;
}

-- a state of this table and these variables without a process
abbrev pub unpeopled : Table → Variables → SourceState
unpeopled table variable = record { table = table; variable = variable; process = λ q. None; printed = [] }
