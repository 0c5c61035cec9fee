-- What a search over all runs knows when it is complete: states that it keeps, closed under what may come next.
use Rattle.std.specs.Prelude.{ℕ, zero, suc, ◌⊎◌, Bool, false, List, Contains}
use Rattle.program.specs.Trees.{Program}
use Rattle.meaning.specs.Labels.{Action, Kind}
use Rattle.meaning.specs.States.{SourceState, opening}
use Rattle.meaning.specs.Runs.{IsAction}
use Rattle.proof_exploration.specs.Exploring.{IsLike, IsTurn, MovesCalmly}

-- a state that is the same as this but for what was printed is kept
abbrev pub IsKept : List SourceState → SourceState → Type 0
IsKept kept s = (r : SourceState) × Contains kept r × IsLike r s

-- the state is kept, or a process with a calm next action is followed from it, to kept states, for at most so many
-- actions
abbrev pub IsCovered : Program → List SourceState → ℕ → SourceState → Type 0
IsCovered p kept zero s = IsKept kept s
IsCovered p kept (suc n) s = IsKept kept s
    ⊎ ((t : ℕ) × MovesCalmly p s t
    × ((kind : Kind) (after : SourceState) → IsAction p s (record { process = t; kind = kind }) after
    → IsCovered p kept n after))

-- each state that a turn of a process leads to is covered
abbrev pub IsExpandedBy : Program → Bool → List SourceState → SourceState → Type 0
IsExpandedBy p strays kept s = (a : Action) (s' : SourceState) → IsTurn p strays s a s' → (n : ℕ) × IsCovered p kept n s'

-- each state that a process's own action leads to is
abbrev pub IsExpanded : Program → List SourceState → SourceState → Type 0
IsExpanded p kept s = IsExpandedBy p false kept s

-- the search is complete: the first state is covered, and so is what comes next after each kept state
pub record IsComplete (p : Program) (strays : Bool) (kept : List SourceState) : Type 0 where
  pub opens : (n : ℕ) × IsCovered p kept n (opening p)
  pub expanded : (s : SourceState) → Contains kept s → IsExpandedBy p strays kept s
