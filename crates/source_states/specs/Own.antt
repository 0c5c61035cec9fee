-- The next action of a process, where it is the only one.
use Rattle.std.specs.Prelude.{ℕ, ◌≡◌, ◌≤◌, ◌↔◌, List, Option, Some, None, Contains, length, ⊤}
use Rattle.std.specs.List.Sorted.{IsStrictlyIncreasing}
use Rattle.program.specs.declared.kinds.Member.{Member}
use Rattle.program.specs.Trees.{Program}
use Rattle.meaning.specs.Labels.{Kind}
use Rattle.meaning.specs.Runs.{IsAction}
use Rattle.meaning.specs.States.{SourceState}
use Rattle.meaning.specs.Table.{Table}
use Rattle.source_offers.specs.declared.foreseeing.Foreseen.{Foreseen}
use Rattle.source_offers.specs.declared.foreseeing.Foreseen.TheVariants.{Acts, Notifies, Broadcasts, Unknown}

-- these are all that wait on the condition, rising
abbrev pub AreWaiting : Table → Member → List ℕ → Type 0
AreWaiting t c waiting = IsStrictlyIncreasing waiting × ((q : ℕ) → Contains waiting q ↔ (t.waits q ≡ Some c))

-- an action that is foreseen so is the only one, and resumes these
abbrev pub AreToResume : Foreseen → Table → List ℕ → Type 0
AreToResume Acts t waiting = ⊤
AreToResume (Notifies c) t waiting = (length waiting ≤ 1) × (AreWaiting t c waiting)
AreToResume (Broadcasts c) t waiting = AreWaiting t c waiting
AreToResume Unknown t waiting = ⊥

-- it was taken, and the process can take no other of its own; or nothing was done
abbrev pub IsOwnTaken : Program → ℕ → Option Kind → SourceState → SourceState → Type 0
IsOwnTaken p n None s s' = s' ≡ s
IsOwnTaken p n (Some kind) s s' =
    IsAction p s (record { process = n; kind = kind }) s'
    × ((other : Kind) (u : SourceState) → IsAction p s (record { process = n; kind = other }) u → other ≡ kind)
