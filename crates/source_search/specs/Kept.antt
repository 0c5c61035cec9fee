-- The states that a search keeps, and where it has come to its end.
use Rattle.std.specs.Prelude.{ℕ, ◌≡◌, ◌++◌, All, Bool, true, false, IsSome, List, Option, Some, None, map}
use Rattle.std.specs.List.{slice_get}
use Rattle.program.specs.Trees.{Program}
use Rattle.meaning.specs.Labels.{Action, Kind}
use Rattle.meaning.specs.Runs.{IsStep}
use Rattle.meaning.specs.States.{SourceState}
use Rattle.proof_exploration.specs.Exploring.{IsStuck}
use Rattle.proof_exploration.specs.Searching.{IsCovered, IsExpandedBy, IsKept}
use Rattle.source_reaching.specs.Choices.{by}
use Rattle.source_search.specs.Found.{HasFailed, IsFrom, interleaves}
use Rattle.source_search.specs.declared.outside.Outside.{Outside}
use Rattle.source_search.specs.Packed.{IsWithin, unpacked}
use Rattle.source_search.specs.declared.kept.Kept.{Kept as KeptOf}
use Rattle.source_search.specs.declared.search.Findings.{Findings as FindingsOf}
use Rattle.source_search.specs.declared.packed.Packed.{Packed as PackedOf}
use Rattle.source_search.specs.declared.parts.Parts.{Parts as PartsOf}

-- the states that are kept
abbrev pub states_in : PartsOf → List PackedOf → List SourceState
states_in parts states = map (unpacked parts) states

abbrev pub states_of : KeptOf → List SourceState
states_of kept = states_in kept.parts kept.states.items

-- the parts of all of them are there
abbrev pub IsSound : KeptOf → Type 0
IsSound kept = All (IsWithin kept.parts) kept.states.items

-- more is kept, behind what was
abbrev pub IsLonger : List SourceState → List SourceState → Type 0
IsLonger kept kept' = (more : List SourceState) × (kept' ≡ kept ++ more)

-- the state is kept, where all actions are interleaved; else it is covered by what is kept
abbrev pub IsSeen : Program → Bool → List SourceState → SourceState → Type 0
IsSeen p true kept s = IsKept kept s
IsSeen p false kept s = (n : ℕ) × IsCovered p kept n s

-- where this action leads to from a state is kept
abbrev pub LeadsToKept : Program → List SourceState → SourceState → Action → Type 0
LeadsToKept p kept s a = (s' : SourceState) → IsStep p s a s' → IsKept kept s'

-- so is wherever an action of this process leads to: its own, or what is searched from outside
abbrev pub IsFollowed : Program → Outside → List SourceState → SourceState → ℕ → Type 0
IsFollowed p may kept s n = (kind : Kind) → IsFrom may s kind → LeadsToKept p kept s (by n kind)

-- and wherever one of any process leads to that was made
abbrev pub IsInterleaved : Program → Outside → List SourceState → SourceState → Type 0
IsInterleaved p may kept s = (a : Action) → IsSome (s.process a.process) → IsFrom may s a.kind → LeadsToKept p kept s a

-- wherever a turn of a process leads to is covered; or where all actions are interleaved, what each leads to is kept
abbrev pub IsExpandedSo : Program → Outside → Bool → List SourceState → SourceState → Type 0
IsExpandedSo p may true kept s = IsInterleaved p may kept s
IsExpandedSo p may false kept s = IsExpandedBy p may.strays kept s

abbrev pub IsExpanded : Program → Outside → List SourceState → SourceState → Type 0
IsExpanded p may kept s = IsExpandedSo p may (interleaves may) kept s

-- none of these states is such an end, where none was found
abbrev pub NoneIs : (SourceState → Type 0) → List SourceState → Option ℕ → Type 0
NoneIs Is states found = found ≡ None → All (λ s. Is s → ⊥) states

-- these are the parts of the state that is kept at a place
pub record IsKeptAt (kept : KeptOf) (place : ℕ) (x : PackedOf) : Type 0 where
  pub within : IsWithin kept.parts x
  pub here : slice_get (states_of kept) place ≡ Some (unpacked kept.parts x)

-- the state that was kept at a place is expanded by what is kept now, and is no end that isn't noted
pub record IsLookedAt (p : Program) (may : Outside) (kept kept' : List SourceState) (place : ℕ)
    (found found' : FindingsOf) : Type 0 where
  pub state : SourceState
  pub here : slice_get kept place ≡ Some state
  pub expanded : IsExpanded p may kept' state
  pub stuck : found'.stuck ≡ None → (found.stuck ≡ None) × (IsStuck p state → ⊥)
  pub aborted : found'.aborted ≡ None → (found.aborted ≡ None) × (HasFailed may state → ⊥)
