-- A machine at whose end all processes are over, and all threads have ended.
use Rattle.std.specs.Prelude.{ℕ, ◌≡◌, ◌≤◌, false, is_some, List, [], Some, length}
use Rattle.machine.specs.Runs.{Step}
use Rattle.machine.specs.States.{State}
use Rattle.program.specs.Trees.{Program}
use Rattle.meaning.specs.Labels.{Action}
use Rattle.meaning.specs.Processes.{Process}
use Rattle.meaning.specs.Runs.{IsRun}
use Rattle.meaning.specs.States.{SourceState}
use Rattle.proof_exploration.specs.Exploring.{IsOver}
use Rattle.refinement.specs.Outside.{killed_threads, stray_threads}
use Rattle.refinement.specs.Resting.{HaveEnded}
use Rattle.refinement.specs.Seen.{machine_end, source_end}
use Rattle.source_search.specs.declared.outside.Outside.{Outside}

-- the machine has printed what a run of the program prints, and its threads have the ends of the run's processes, all of
-- which are over
pub record AllOver (p : Program) (s : State) : Type 0 where
  pub actions : List Action
  pub source : SourceState
  pub run : IsRun p actions source
  pub output : s.output ≡ source.printed
  pub ends : (q : ℕ) → machine_end s q ≡ source_end source q
  pub over : (q : ℕ) (at : Process) → source.process q ≡ Some at → IsOver at
  -- the machine has the run's processes as threads, and each of them has ended
  pub made : (q : ℕ) → is_some (s.thread q) ≡ is_some (source.process q)
  pub ended : HaveEnded s

-- what came from outside in these steps of the machine is what was searched: no more are killed than may be, and without
-- stray wake-ups nobody who waits on a condition is woken from outside
pub record IsSearched (p : Program) (may : Outside) (steps : List Step) : Type 0 where
  pub killed : length (killed_threads steps) ≤ may.kills
  pub called_for : may.strays ≡ false → stray_threads p steps ≡ []
