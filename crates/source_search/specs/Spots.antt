-- Where one process of a kept state stands, and what all that it may do depends on.
use Rattle.std.specs.Prelude.{ℕ, suc, ◌<◌, ◌≡◌, [], ◌∷◌, All, IsSome, List, Option, Some, None, length}
use Rattle.std.specs.List.{slice_get}
use Rattle.words.specs.Updates.{put}
use Rattle.meaning.specs.Processes.{Process}
use Rattle.meaning.specs.States.{SourceState}
use Rattle.source_offers.specs.declared.process.Process.{Process as ProcessOf}
use Rattle.source_reaching.specs.Among.{among}
use Rattle.source_search.specs.Packed.{IsPackedOf, process_in, processes_at, some_table, some_variables, table_in, unpacked}
use Rattle.source_search.specs.Packed.{variables_in}
use Rattle.source_search.specs.declared.packed.Packed.{Packed as PackedOf}
use Rattle.source_search.specs.declared.parts.Parts.{Parts as PartsOf}
use Rattle.source_search.specs.declared.spot.Spot.{Spot as SpotOf}

-- the state in which the process stands there, and there is no other
abbrev pub alone : PartsOf → SpotOf → SourceState
alone parts spot = record {
  table = some_table (table_in parts.tables.items spot.table);
  variable = some_variables (variables_in parts.variables.items spot.variables);
  process = put (λ q. None) spot.process (process_in parts.processes.items spot.part);
  printed = [];
}

-- the process at this place of a kept state stands there
pub record IsSpotOf (x : PackedOf) (place : ℕ) (spot : SpotOf) : Type 0 where
  pub process : spot.process ≡ suc place
  pub part : slice_get x.processes.items place ≡ Some spot.part
  pub table : spot.table ≡ x.table
  pub variables : spot.variables ≡ x.variables

-- its parts are there
pub record IsSpotWithin (parts : PartsOf) (spot : SpotOf) : Type 0 where
  pub table : spot.table < length parts.tables.items
  pub variables : spot.variables < length parts.variables.items
  pub part : spot.part < length parts.processes.items

-- a state is the one in which the process is alone, and there it is
pub record IsAlone (parts : PartsOf) (spot : SpotOf) (s : SourceState) : Type 0 where
  pub same : s ≡ alone parts spot
  pub stands : IsSome (s.process spot.process)

-- the numbers of processes with this part at the place of a process, or behind the last one
pub record IsPutAt (numbers : List ℕ) (process part : ℕ) (numbers' : List ℕ) : Type 0 where
  pub at : (parts : List ProcessOf) (q : ℕ)
      → processes_at parts numbers' q ≡ put (processes_at parts numbers) process (process_in parts part) q
  pub within : (m : ℕ) → part < m → All (λ n. n < m) numbers → All (λ n. n < m) numbers'

-- a kept state with a state's table, variables and processes in place of its own
abbrev pub IsMergedOf : PartsOf → PartsOf → PackedOf → SourceState → PackedOf → Type 0
IsMergedOf parts parts' x s y = IsPackedOf parts' y (among (unpacked parts x).process s)

-- a function of numbers, with another's values at these
abbrev pub over : List ℕ → (ℕ → Option Process) → (ℕ → Option Process) → ℕ → Option Process
over [] f g = g
over (n ∷ ns) f g = over ns f (put g n (f n))

-- the processes of a kept state, with those of these numbers in place of its own
pub record IsMergedTo (parts parts' : List ProcessOf) (ids : List ℕ) (process : ℕ → Option Process) (numbers ids' : List ℕ)
    : Type 0 where
  pub within : All (λ n. n < length parts') ids'
  pub at : (q : ℕ) → processes_at parts' ids' q ≡ over numbers process (processes_at parts ids) q
