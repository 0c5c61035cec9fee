-- What is known of a state behind calm actions of a process that were followed.
use Rattle.std.specs.Prelude.{ℕ, IsSome, Option, map, ⊤}
use Rattle.program.specs.Trees.{Program}
use Rattle.meaning.specs.Labels.{Action}
use Rattle.meaning.specs.Processes.{Process}
use Rattle.meaning.specs.States.{SourceState}
use Rattle.source_states.specs.Actions.{action_of}
use Rattle.source_reaching.specs.Among.{IsAheadAmong, Reaches, among}
use Rattle.source_reaching.specs.Covered.{IsFollowable}
use Rattle.source_reaching.specs.declared.follow.Followed.{Followed}
use Rattle.source_reaching.specs.declared.follow.Followed.TheVariants.{Stopped, Went, Choices, Lost}

-- whatever the others are, where it is covered, the state before is; with choices, they are those of the process
abbrev pub IsFollowedAmong : Program → ℕ → SourceState → SourceState → Followed → Type 0
IsFollowedAmong p t s s' Stopped = IsAheadAmong p t s s'
IsFollowedAmong p t s s' Went = IsAheadAmong p t s s'
IsFollowedAmong p t s s' (Choices actions) = IsAheadAmong p t s s' × (IsSome (s'.process t)
    → (others : ℕ → Option Process) → IsFollowable p (among others s') t (map action_of actions.items))
IsFollowedAmong p t s s' Lost = ⊤

-- the same of calm actions that were followed behind an action
abbrev pub IsReached : Program → ℕ → SourceState → Action → SourceState → Followed → Type 0
IsReached p t s a s' Stopped = Reaches p t s a s'
IsReached p t s a s' Went = Reaches p t s a s'
IsReached p t s a s' (Choices actions) = Reaches p t s a s' × (IsSome (s'.process t)
    → (others : ℕ → Option Process) → IsFollowable p (among others s') t (map action_of actions.items))
IsReached p t s a s' Lost = ⊤
