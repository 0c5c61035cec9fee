-- The states that a search keeps, as states of the meaning.
use Rattle.std.specs.Prelude.{ℕ, zero, suc, ◌<◌, ◌≡◌, ◌++◌, List, [], All, Contains, Option, Some, None, length, option_map, pos}
use Rattle.std.specs.List.{slice_get}
use Rattle.meaning.specs.Processes.{Process}
use Rattle.meaning.specs.States.{SourceState}
use Rattle.meaning.specs.Table.{Table, first_table}
use Rattle.meaning.specs.Values.{Variables}
use Rattle.proof_exploration.specs.Exploring.{IsLike}
use Rattle.source_offers.specs.Stages.{process_of}
use Rattle.source_offers.specs.Stores.{variables_of}
use Rattle.source_offers.specs.declared.process.Process.{Process as ProcessOf}
use Rattle.source_offers.specs.declared.variables.Variables.{Variables as VariablesOf}
use Rattle.source_table.specs.Tables.{table_of}
use Rattle.source_table.specs.declared.table.Table.{Table as TableOf}
use Rattle.source_search.specs.declared.packed.Packed.{Packed as PackedOf}
use Rattle.source_search.specs.declared.parts.Parts.{Parts as PartsOf}

-- the part of a number
abbrev pub table_in : List TableOf → ℕ → Option Table
table_in tables n = option_map table_of (slice_get tables n)

abbrev pub variables_in : List VariablesOf → ℕ → Option Variables
variables_in variables n = option_map variables_of (slice_get variables n)

abbrev pub process_in : List ProcessOf → ℕ → Option Process
process_in processes n = option_map process_of (slice_get processes n)

-- a part, or what stands for one that is missing
abbrev pub some_table : Option Table → Table
some_table None = first_table 0
some_table (Some t) = t

abbrev pub some_variables : Option Variables → Variables
some_variables None = λ m n i. pos 0
some_variables (Some v) = v

abbrev pub some_process : List ProcessOf → Option ℕ → Option Process
some_process parts None = None
some_process parts (Some n) = process_in parts n

-- the process of each number, from 1, where these are the numbers of the parts
abbrev pub processes_at : List ProcessOf → List ℕ → ℕ → Option Process
processes_at parts numbers zero = None
processes_at parts numbers (suc q) = some_process parts (slice_get numbers q)

-- a state, with nothing printed
abbrev pub unpacked : PartsOf → PackedOf → SourceState
unpacked parts x = record {
  table = some_table (table_in parts.tables.items x.table);
  variable = some_variables (variables_in parts.variables.items x.variables);
  process = processes_at parts.processes.items x.processes.items;
  printed = [];
}

-- its parts are there
pub record IsWithin (parts : PartsOf) (x : PackedOf) : Type 0 where
  pub table : x.table < length parts.tables.items
  pub variables : x.variables < length parts.variables.items
  pub processes : All (λ n. n < length parts.processes.items) x.processes.items

-- more stands behind what stood there
abbrev pub IsPrefix : {A : Type 0} → List A → List A → Type 0
IsPrefix {A} xs ys = (more : List A) × (ys ≡ xs ++ more)

-- there are more parts
pub record IsGrown (parts parts' : PartsOf) : Type 0 where
  pub tables : IsPrefix parts.tables.items parts'.tables.items
  pub variables : IsPrefix parts.variables.items parts'.variables.items
  pub processes : IsPrefix parts.processes.items parts'.processes.items

-- so many of the processes are packed: they have the first numbers, and stand where their parts do
pub record ArePackedTo (k : ℕ) (parts : List ProcessOf) (numbers processes : List ℕ) (process : ℕ → Option Process)
    : Type 0 where
  pub count : length numbers ≡ k
  pub within : All (λ n. n < length parts) numbers
  pub first : (j : ℕ) → j < k → slice_get processes j ≡ Some (suc j)
  pub same : (j : ℕ) → j < k → processes_at parts numbers (suc j) ≡ process (suc j)

-- all of these are
abbrev pub ArePacked : List ProcessOf → List ℕ → List ℕ → (ℕ → Option Process) → Type 0
ArePacked parts numbers processes process = ArePackedTo (length processes) parts numbers processes process

-- a state of these parts is this one, but for what was printed
pub record IsPackedOf (parts : PartsOf) (x : PackedOf) (s : SourceState) : Type 0 where
  pub within : IsWithin parts x
  pub like : IsLike (unpacked parts x) s

-- the same parts
pub record IsSameKey (x y : PackedOf) : Type 0 where
  pub table : x.table ≡ y.table
  pub variables : x.variables ≡ y.variables
  pub processes : x.processes.items ≡ y.processes.items

-- one of these is of the same parts
abbrev pub HasKey : List PackedOf → PackedOf → Type 0
HasKey states x = (y : PackedOf) × Contains states y × IsSameKey y x
