-- States of the source.
use Rattle.std.specs.Prelude.{ℕ, ◌-◌, ◌==◌, ℤ, pos, List, [], ◌∷◌, ◌++◌, length, Option, Some, None, if◌then◌else◌}
use Rattle.words.specs.Updates.{put}
use Rattle.program.specs.Trees.{Program}
use Rattle.meaning.specs.Values.{Variables, with_variable}
use Rattle.words.specs.Versions.{most_of}
use Rattle.meaning.specs.Table.{Table, first_table}
use Rattle.meaning.specs.Processes.{Process, begins, opening_frame}
use Rattle.meaning.specs.Offers.{Effect, Nothing, Puts, Writes, Makes}

-- monitors, conditions and the process table; the variables; the processes that were made, by number from 1; and the
-- numbers printed
pub record SourceState : Type 0 where
  pub table : Table
  pub variable : Variables
  pub process : ℕ → Option Process
  pub printed : List ℤ

-- the main part is the last piece
abbrev pub main_process : Program → Process
main_process p = begins (opening_frame p (length p.procedures - 1) []) []

-- all variables are 0, FALSE or the empty handle, and the main process is all
abbrev pub opening : Program → SourceState
opening p = record {
  table = first_table (most_of p.version);
  variable = λ m n i. pos 0;
  process = λ q. if q == 1 then Some (main_process p) else None;
  printed = [];
}

-- what an action does to variables, output and other processes
abbrev pub variables_after : Effect → Variables → Variables
variables_after Nothing v = v
variables_after (Puts m n i z) v = with_variable v m n i z
variables_after (Writes z) v = v
variables_after (Makes child q) v = v

-- the output behind an effect
abbrev pub printed_after : Effect → List ℤ → List ℤ
printed_after Nothing zs = zs
printed_after (Puts m n i z) zs = zs
printed_after (Writes z) zs = zs ++ z ∷ []
printed_after (Makes child q) zs = zs

-- the processes behind an effect
abbrev pub processes_after : Effect → (ℕ → Option Process) → ℕ → Option Process
processes_after Nothing process = process
processes_after (Puts m n i z) process = process
processes_after (Writes z) process = process
processes_after (Makes child q) process = put process child (Some q)
