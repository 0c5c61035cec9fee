-- States from which a run may end, and others from which none does any more.
use Rattle.std.specs.Prelude.{ℕ, List, Contains}
use Rattle.program.specs.Trees.{Program}
use Rattle.meaning.specs.Labels.{Action}
use Rattle.meaning.specs.Runs.{IsRun}
use Rattle.meaning.specs.States.{SourceState}
use Rattle.proof_exploration.specs.Blocking.{GoesOn}
use Rattle.proof_exploration.specs.Exploring.{IsLike, LeadsAlone}

-- every process is over
abbrev pub IsEnded : SourceState → Type 0
IsEnded s = (q : ℕ) → GoesOn s q → ⊥

-- processes' own actions lead to a state in which every process is over
abbrev pub MayEnd : Program → SourceState → Type 0
MayEnd p s = (actions : List Action) × (end : SourceState) × LeadsAlone p s actions end × IsEnded end

-- whatever the processes do, they are never all over
abbrev pub IsLost : Program → SourceState → Type 0
IsLost p s = MayEnd p s → ⊥

-- wherever a run leads to a state like this one, it may end
abbrev pub IsEndable : Program → SourceState → Type 0
IsEndable p s = (actions : List Action) (e : SourceState) → IsRun p actions e → IsLike e s → MayEnd p e

-- where a run leads to the state, it can't end any more
abbrev pub IsLostAt : Program → SourceState → Type 0
IsLostAt p s = (actions : List Action) → IsRun p actions s → IsLost p s

-- in one of these states some process isn't over
abbrev pub GoesOnInOne : List SourceState → Type 0
GoesOnInOne kept = (s : SourceState) × Contains kept s × (IsEnded s → ⊥)
