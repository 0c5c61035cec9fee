-- What a search has kept, and why it ended early, if it did.
use Rattle.std.specs.Prelude.{ℕ, ◌≡◌, ◌<◌, ◌≤◌, All, Contains, IfSome, List, Option, Some, None, MatchOption, length, true, false}
use Rattle.std.specs.List.Sorted.{IsStrictlyIncreasing}
use Rattle.program.specs.Trees.{Program}
use Rattle.program.specs.declared.kinds.Member.{Member}
use Rattle.meaning.specs.States.{SourceState, opening}
use Rattle.source_search.specs.Found.{interleaves}
use Rattle.source_search.specs.Growth.{HasGrown}
use Rattle.source_search.specs.Kept.{IsExpanded, IsSeen}
use Rattle.source_search.specs.declared.bounds.Bound.{Bound}
use Rattle.source_search.specs.declared.bounds.Bound.TheVariants.{Lost, Run, States, Waiters}
use Rattle.source_search.specs.declared.outside.Outside.{Outside}
use Rattle.source_search.specs.declared.runs.Exploration.{Exploration}

-- more than twelve processes wait on one condition
pub record IsCrowded (s : SourceState) : Type 0 where
  pub condition : Member
  pub waiting : List ℕ
  pub rising : IsStrictlyIncreasing waiting
  pub all : (q : ℕ) → Contains waiting q → s.table.waits q ≡ Some condition
  pub many : 12 < length waiting

-- nothing is left to keep: the state in which every run begins is seen, and wherever an action leads to from these
pub record AreAll (p : Program) (may : Outside) (kept : List SourceState) : Type 0 where
  pub opens : IsSeen p (interleaves may) kept (opening p)
  pub expanded : All (IsExpanded p may kept) kept

-- a search that may keep so many states, and keeps these, has met this bound: it may keep no more; so many processes wait
-- on one condition; or something was lost though it might keep more; or nothing is left to keep, and no run is told
abbrev pub IsMet : Program → Outside → ℕ → List SourceState → Bound → Type 0
IsMet p may most kept States = most ≤ length kept
IsMet p may most kept Waiters = (s : SourceState) × Contains kept s × IsCrowded s
IsMet p may most kept Lost = length kept < most
IsMet p may most kept Run = (length kept < most) × AreAll p may kept

-- nothing is left to keep, unless a bound was met
abbrev pub HasEnded : Program → Outside → ℕ → List SourceState → Option Bound → Type 0
HasEnded p may most kept bound = MatchOption bound (AreAll p may kept) (IsMet p may most kept)

-- so many states were kept of those that may be, and the search was complete unless a bound was met; where it is told what
-- grew, that grew in these, and the search wasn't complete
pub record HasSearched (p : Program) (may : Outside) (most : ℕ) (e : Exploration) : Type 0 where
  pub kept : List SourceState
  pub count : length kept ≡ e.states
  pub ended : HasEnded p may most kept e.bound
  pub complete : MatchOption e.bound (e.complete ≡ true) (λ b. e.complete ≡ false)
  pub grown : IfSome e.growth (HasGrown kept)
  pub ungrown : e.complete ≡ true → e.growth ≡ None
