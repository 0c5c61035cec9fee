-- What a search says of processes that are blocked for good.
use Rattle.std.specs.Prelude.{ℕ, ◌≡◌, ◌<◌, ◌⊎◌, All, Bool, true, false, List, length}
use Rattle.program.specs.Trees.{Program}
use Rattle.meaning.specs.States.{SourceState}
use Rattle.proof_exploration.specs.Blocking.{HasBlocked, IsBlocked}
use Rattle.source_search.specs.Bounds.{AreAll}
use Rattle.source_search.specs.Found.{LeadsNowhere, LeadsTo, is_any}
use Rattle.source_search.specs.Living.{RestsInOne}
use Rattle.source_search.specs.declared.blocking.Blocked.{Blocked}
use Rattle.source_search.specs.declared.blocking.Blocked.TheVariants.{Found, Never, NotLookedFor, NotTold}
use Rattle.source_search.specs.declared.outside.Outside.{Outside}

-- each of these processes is blocked for good
abbrev pub AreBlocked : Program → List ℕ → SourceState → Type 0
AreBlocked p processes s = All (IsBlocked p s) processes

-- nothing is left to keep of a search, and in a kept state a process that isn't over can't move
pub record HasResting (p : Program) (may : Outside) : Type 0 where
  pub kept : List SourceState
  pub all : AreAll p may kept
  pub process : ℕ
  pub rests : RestsInOne p kept process

-- some are blocked for good at the end of a run of the actions that are searched; or none is in any. It isn't looked for
-- where something from outside is searched, or the search isn't complete; and it isn't told only where some process is
-- held up
abbrev pub IsTold : Program → Outside → Bool → Blocked → Type 0
IsTold p may complete (Found processes run) =
    LeadsTo p may (AreBlocked p processes.items) run.items × (0 < length processes.items)
IsTold p may complete Never = LeadsNowhere p may (HasBlocked p)
IsTold p may complete NotLookedFor = (is_any may ≡ true) ⊎ (complete ≡ false)
IsTold p may complete NotTold = HasResting p may
