-- What an action does to a state.
use Rattle.std.specs.Prelude.{ℕ, ◌≡◌, Some}
use Rattle.words.specs.Updates.{put}
use Rattle.meaning.specs.Labels.{Label}
use Rattle.meaning.specs.Table.{Allows}
use Rattle.meaning.specs.Processes.{Process}
use Rattle.meaning.specs.Offers.{Effect}
use Rattle.meaning.specs.States.{SourceState, variables_after, printed_after, processes_after}

-- an action of this label and effect, after which its process stands here, leads from a state to another
pub record IsDone (p : ℕ) (label : Label) (effect : Effect) (after : Process) (s s' : SourceState) : Type 0 where
  pub allows : Allows p label s.table s'.table
  pub variables : s'.variable ≡ variables_after effect s.variable
  pub printed : s'.printed ≡ printed_after effect s.printed
  pub processes : s'.process ≡ put (processes_after effect s.process) p (Some after)
