-- What is covered by the states that a search keeps: calm actions, of one process at a time, lead from it to them.
use Rattle.std.specs.Prelude.{ℕ, List}
use Rattle.program.specs.Trees.{Program}
use Rattle.meaning.specs.Labels.{Action}
use Rattle.meaning.specs.States.{SourceState}
use Rattle.proof_exploration.specs.Exploring.{MovesCalmly}
use Rattle.proof_exploration.specs.Searching.{IsCovered}
use Rattle.source_reaching.specs.Choices.{AreOwnChoices}

-- the process's next action is possible and calm, and these are its choices
pub record IsFollowable (p : Program) (s : SourceState) (t : ℕ) (actions : List Action) : Type 0 where
  pub calm : MovesCalmly p s t
  pub choices : AreOwnChoices p s t actions

-- where the second state is covered, the first is
abbrev pub IsAhead : Program → SourceState → SourceState → Type 0
IsAhead p s s' = (kept : List SourceState) (n : ℕ) → IsCovered p kept n s' → (m : ℕ) × IsCovered p kept m s
