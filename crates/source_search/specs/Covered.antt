-- What is covered by the states that a search keeps, of the states that processes' own actions lead to.
use Rattle.std.specs.Prelude.{ℕ, List, Option}
use Rattle.program.specs.Trees.{Program}
use Rattle.meaning.specs.Labels.{Kind}
use Rattle.meaning.specs.Processes.{Process}
use Rattle.meaning.specs.States.{SourceState}
use Rattle.proof_exploration.specs.Searching.{IsCovered}
use Rattle.source_reaching.specs.Among.{LeadsOwn, among}
use Rattle.source_reaching.specs.Choices.{by}
use Rattle.source_reaching.specs.Covered.{IsAhead}
use Rattle.source_search.specs.Packed.{IsWithin, unpacked}
use Rattle.source_search.specs.declared.packed.Packed.{Packed as PackedOf}
use Rattle.source_search.specs.declared.parts.Parts.{Parts as PartsOf}

-- the state is covered in some number of actions
abbrev pub IsCoveredSo : Program → List SourceState → SourceState → Type 0
IsCoveredSo p kept s = (n : ℕ) × IsCovered p kept n s

-- whatever an action of the process's own leads to is covered
abbrev pub IsFollowedOwn : Program → List SourceState → SourceState → ℕ → Type 0
IsFollowedOwn p kept s t = (kind : Kind) → LeadsOwn p kept s (by t kind)

-- whatever other processes there are beside, where the second state is covered, the first is
abbrev pub IsAheadBeside : Program → SourceState → SourceState → Type 0
IsAheadBeside p s s' = (others : ℕ → Option Process) → IsAhead p (among others s) (among others s')

-- the parts of the second are there, and where it is covered, the first is
pub record IsAheadOf (p : Program) (parts parts' : PartsOf) (x y : PackedOf) : Type 0 where
  pub within : IsWithin parts' y
  pub ahead : IsAhead p (unpacked parts x) (unpacked parts' y)
