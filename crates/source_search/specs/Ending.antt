-- What a search says of runs that can't end any more.
use Rattle.std.specs.Prelude.{ℕ, ◌≡◌, ◌⊎◌, All, Bool, true, false, List, MatchOption, Option}
use Rattle.program.specs.Trees.{Program}
use Rattle.meaning.specs.Labels.{Action}
use Rattle.meaning.specs.Runs.{IsRun}
use Rattle.meaning.specs.States.{SourceState}
use Rattle.source_states.specs.declared.action.Action.{Action as ActionOf}
use Rattle.source_search.specs.Bounds.{AreAll}
use Rattle.source_search.specs.Ends.{GoesOnInOne, IsEndable, IsLost, MayEnd}
use Rattle.source_search.specs.Found.{AreFrom, LeadsTo, is_any}
use Rattle.source_search.specs.declared.ending.Ending.{Ending}
use Rattle.source_search.specs.declared.ending.Ending.TheVariants.{Found, Never, NotAsked, NotLookedFor, NotTold}
use Rattle.source_search.specs.declared.outside.Outside.{Outside}

-- these are a run of the actions that are searched, and it can't end any more
abbrev pub IsLostRun : Program → Outside → List ActionOf → Type 0
IsLostRun p may actions = LeadsTo p may (IsLost p) actions

-- from each state that a run of the actions that are searched leads to, a run leads to one in which every process is over
abbrev pub EachMayEnd : Program → Outside → Type 0
EachMayEnd p may = (actions : List Action) (s : SourceState) → IsRun p actions s → AreFrom may actions → MayEnd p s

-- nothing is left to keep of a search, and in a kept state some process isn't over
pub record HasUnended (p : Program) (may : Outside) : Type 0 where
  pub kept : List SourceState
  pub all : AreAll p may kept
  pub goes_on : GoesOnInOne kept

-- where none was found, each of these states may end; else some process isn't over in one
abbrev pub IsEndLookedFor : Program → List SourceState → Option ℕ → Type 0
IsEndLookedFor p kept found = MatchOption found (All (IsEndable p) kept) (λ place. GoesOnInOne kept)

-- a run of the actions that are searched can't end any more; or from each state that one leads to, a run ends. It isn't
-- looked for where it isn't asked for, something from outside is searched, or the search isn't complete; and it isn't told
-- only where some process isn't over in a kept state
abbrev pub IsEndTold : Program → Outside → Bool → Bool → Ending → Type 0
IsEndTold p may asked complete (Found run) = IsLostRun p may run.items
IsEndTold p may asked complete Never = EachMayEnd p may
IsEndTold p may asked complete NotAsked = asked ≡ false
IsEndTold p may asked complete NotLookedFor = (is_any may ≡ true) ⊎ (complete ≡ false)
IsEndTold p may asked complete NotTold = HasUnended p may
