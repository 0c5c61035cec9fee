-- Kept states in which processes may do something still, and others in which one can't move.
use Rattle.std.specs.Prelude.{ℕ, ◌≡◌, All, List, Contains, Option, Some, None, MatchOption, ⊤}
use Rattle.program.specs.Trees.{Program}
use Rattle.meaning.specs.Labels.{Action}
use Rattle.meaning.specs.Processes.{Process}
use Rattle.meaning.specs.Runs.{CanMove, IsRun}
use Rattle.meaning.specs.States.{SourceState}
use Rattle.proof_exploration.specs.Blocking.{ComesTo, GoesOn, IsBlocked, IsHeldUp, IsLive, MayWait}
use Rattle.proof_exploration.specs.Searching.{IsCovered, IsExpanded}
use Rattle.source_search.specs.Ends.{IsEndable}
use Rattle.source_search.specs.declared.living.Aim.{Aim as AimOf}
use Rattle.source_search.specs.declared.living.Aim.TheVariants.{Act, End}
use Rattle.source_search.specs.declared.living.Resting.{Resting as RestingOf}

-- this process is asked for, where one alone is
abbrev pub IsAsked : Option ℕ → ℕ → Type 0
IsAsked None q = ⊤
IsAsked (Some n) q = q ≡ n

-- each process that is asked for may do something still, wherever a run leads to a state like this one
abbrev pub IsLiveFor : Program → Option ℕ → SourceState → Type 0
IsLiveFor p who s = (q : ℕ) → IsAsked who q → IsLive p s q

-- each of these states is so
abbrev pub AreLiveFor : Program → Option ℕ → List SourceState → Type 0
AreLiveFor p who kept = All (IsLiveFor p who) kept

-- what is aimed at may still come about, wherever a run leads to a state like this one: these processes may do something,
-- or all may come to be over
abbrev pub IsLiveTo : Program → AimOf → SourceState → Type 0
IsLiveTo p (Act who) = IsLiveFor p who
IsLiveTo p End = IsEndable p

-- in each of these states it may
abbrev pub AreLiveTo : Program → AimOf → List SourceState → Type 0
AreLiveTo p aim kept = All (IsLiveTo p aim) kept

-- processes' own actions lead from the state to one of these
abbrev pub ComesToOne : Program → List SourceState → SourceState → Type 0
ComesToOne p kept s = (r : SourceState) × Contains kept r × ComesTo p s r

-- a process isn't over, and can't move
pub record IsResting (p : Program) (s : SourceState) (q : ℕ) : Type 0 where
  pub goes_on : GoesOn s q
  pub rests : CanMove p s q → ⊥

-- it is in one of these states
abbrev pub RestsInOne : Program → List SourceState → ℕ → Type 0
RestsInOne p kept q = (s : SourceState) × Contains kept s × IsResting p s q

-- where none was found, each of all processes may do something still in each of these states; else one rests in one
abbrev pub IsLookedFor : Program → List SourceState → Option RestingOf → Type 0
IsLookedFor p kept found = MatchOption found (AreLiveFor p None kept) (λ r. RestsInOne p kept r.process)

-- a process may be held up where it stands in a state, and stands there and is held up in each of these
pub record IsHeldIn (p : Program) (kept : List SourceState) (s : SourceState) (q : ℕ) : Type 0 where
  pub at : Process
  pub stands : s.process q ≡ Some at
  pub waits : MayWait at
  pub held : All (λ r. IsHeldUp p r q at) kept

-- the state is covered by these, and so is whatever comes next after each of them
pub record IsClosedOver (p : Program) (kept : List SourceState) (s : SourceState) : Type 0 where
  pub covered : (n : ℕ) × IsCovered p kept n s
  pub expanded : (r : SourceState) → Contains kept r → IsExpanded p kept r

-- where a run leads to the state, each of these processes is blocked for good in it
abbrev pub AreBlockedAt : Program → SourceState → List ℕ → Type 0
AreBlockedAt p s processes = (actions : List Action) → IsRun p actions s → All (IsBlocked p s) processes
