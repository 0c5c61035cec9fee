-- How long a run a list of actions begins with.
use Rattle.std.specs.Prelude.{ℕ, ◌≤◌, ◌<◌, ◌+◌, List, length, map, take}
use Rattle.program.specs.Trees.{Program}
use Rattle.meaning.specs.Runs.{IsRun}
use Rattle.meaning.specs.States.{SourceState}
use Rattle.source_states.specs.declared.action.Action.{Action as ActionOf}
use Rattle.source_states.specs.Actions.{action_of}

-- the first n of these actions are a run, and with the next one, where there is one, they aren't
pub record IsRunLength (p : Program) (actions : List ActionOf) (n : ℕ) : Type 0 where
  pub few : n ≤ length actions
  pub end : SourceState
  pub run : IsRun p (map action_of (take n actions)) end
  pub ends : n < length actions → (s : SourceState) → IsRun p (map action_of (take (n + 1) actions)) s → ⊥
