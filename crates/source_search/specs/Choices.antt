-- The actions that a search tries of a process.
use Rattle.std.specs.Prelude.{ℕ, ◌≡◌, List, ◌∷◌, Bool, true, ◌<◌, Contains, Option, Some, None, map}
use Rattle.program.specs.Trees.{Program}
use Rattle.program.specs.declared.kinds.Member.{Member}
use Rattle.meaning.specs.Labels.{Action, Kill, Kind, Stray}
use Rattle.meaning.specs.Offers.{offer}
use Rattle.meaning.specs.Processes.{Process, holds}
use Rattle.meaning.specs.Runs.{IsKill, IsKillable, IsNotifying, IsStep}
use Rattle.meaning.specs.States.{SourceState}
use Rattle.meaning.specs.Table.{Table, AreResumed}
use Rattle.proof_exploration.specs.Exploring.{SameMembers}
use Rattle.source_reaching.specs.Choices.{by}
use Rattle.source_search.specs.Found.{IsFrom, killed_in}
use Rattle.source_search.specs.declared.outside.Outside.{Outside}

-- whatever such an action of the process leads to from this state, one of these actions leads to the same
abbrev pub AreChoices : Program → Outside → SourceState → ℕ → List Action → Type 0
AreChoices p may s n actions = (kind : Kind) (s' : SourceState) → IsFrom may s kind → IsStep p s (by n kind) s'
    → (a : Action) × Contains actions a × IsStep p s a s'

-- whatever a kill of the process leads to from this state, one of these actions does too
abbrev pub AreKills : Program → SourceState → ℕ → List Action → Type 0
AreKills p s n actions = (resumed : List ℕ) (last : Option ℕ) (s' : SourceState) → IsKill p s n resumed last s'
    → (r : List ℕ) × Contains actions (by n (Kill r last)) × IsKill p s n r last s'

-- a condition that the process would notify or broadcast next is this one
abbrev pub WouldNotify : Program → SourceState → ℕ → Option Member → Type 0
WouldNotify p s n condition = (before : Process) (c : Member) → s.process n ≡ Some before
    → IsNotifying (offer p s.variable before) (Some c) → condition ≡ Some c

-- whomever a kill of the process may resume, one of these lists has the same processes
abbrev pub AreResumable : Program → SourceState → ℕ → List (List ℕ) → Type 0
AreResumable p s n lists = (before : Process) (notified : Option Member) (resumed : List ℕ)
    → s.process n ≡ Some before → IsNotifying (offer p s.variable before) notified
    → AreResumed s.table notified resumed
    → (r : List ℕ) × Contains lists r × AreResumed s.table notified r × SameMembers resumed r

-- the monitors that a process holds that can be killed are among these
abbrev pub AreHeld : Process → List ℕ → Type 0
AreHeld q monitors = (m : ℕ) → IsKillable q → Contains (holds q) m → Contains monitors m

-- all of the ones are among the others, and so is the stray wake-up of a process that waits, where it is searched
pub record HasStray (strays : Bool) (t : Table) (n : ℕ) (own actions : List Action) : Type 0 where
  pub all : (a : Action) → Contains own a → Contains actions a
  pub stray : (c : Member) → strays ≡ true → t.waits n ≡ Some c → Contains actions (by n (Stray c))

-- and so are kills of the process for all that a kill leads to, where there may be one more
pub record HasKills (p : Program) (kills : ℕ) (s : SourceState) (n : ℕ) (others actions : List Action) : Type 0 where
  pub all : (a : Action) → Contains others a → Contains actions a
  pub each : killed_in s < kills → AreKills p s n actions

-- the kills of a process that resume these, with each of these monitors as the last, and with none
abbrev pub kills_with : ℕ → List ℕ → List ℕ → List Action
kills_with n monitors resumed =
    by n (Kill resumed None) ∷ map (λ m. by n (Kill resumed (Some m))) monitors
