-- What the actions of a process reach.
use Rattle.std.specs.Prelude.{ℕ, ◌≡◌, ◌++◌, List, Option, Some, None, IsSome, map}
use Rattle.program.specs.Trees.{Program}
use Rattle.meaning.specs.Labels.{Action}
use Rattle.meaning.specs.Runs.{IsStep}
use Rattle.meaning.specs.States.{SourceState}
use Rattle.proof_exploration.specs.Exploring.{IsLike}
use Rattle.source_states.specs.States.{state_of}
use Rattle.source_states.specs.declared.state.SourceState.{SourceState as StateOf}
use Rattle.source_reaching.specs.Followed.{IsReached}
use Rattle.source_reaching.specs.declared.reaching.End.{End}
use Rattle.source_reaching.specs.declared.reaching.Reached.{Reached}

-- the states that are reached
abbrev pub ends_in : List End → List SourceState
ends_in ends = map (λ (e : End). state_of e.state) ends

-- there are more, behind those that there were
abbrev pub IsLonger : List SourceState → List SourceState → Type 0
IsLonger ends ends' = (more : List SourceState) × (ends' ≡ ends ++ more)

-- an action of the process reached this
abbrev pub IsReachedBy : Program → ℕ → SourceState → Action → Reached → Type 0
IsReachedBy p t s a r = IsReached p t s a (state_of r.state) r.followed

-- an action leads to this state, but for what was printed, and no process is missing; where there is none it isn't possible
abbrev pub LeadsTo : Program → SourceState → Action → Option StateOf → Type 0
LeadsTo p s a None = (u : SourceState) → IsStep p s a u → ⊥
LeadsTo p s a (Some next) =
    ((u : SourceState) → IsStep p s a u → IsLike (state_of next) u)
    × ((t : ℕ) → IsSome (s.process t) → IsSome ((state_of next).process t))
