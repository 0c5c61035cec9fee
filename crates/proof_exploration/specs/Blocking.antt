-- Processes that are blocked for good, and processes that may do something still.
use Rattle.std.specs.Prelude.{ℕ, ◌≡◌, List, Some, ⊤}
use Rattle.program.specs.Trees.{Program}
use Rattle.meaning.specs.Labels.{Action}
use Rattle.meaning.specs.Processes.{Process, Entering, Suspended, Joining}
use Rattle.meaning.specs.States.{SourceState}
use Rattle.meaning.specs.Runs.{CanMove, IsRun}
use Rattle.proof_exploration.specs.Exploring.{IsLike, IsOver, LeadsAlone}

-- there is such a process, and it isn't over
abbrev pub GoesOn : SourceState → ℕ → Type 0
GoesOn s q = (at : Process) × (s.process q ≡ Some at) × (IsOver at → ⊥)

-- processes' own actions lead to a state in which this process can move
abbrev pub MayAct : Program → SourceState → ℕ → Type 0
MayAct p s q = (actions : List Action) × (s' : SourceState) × LeadsAlone p s actions s' × CanMove p s' q

-- a process is blocked for good: it isn't over, and whatever the processes do, it can do nothing any more
pub record IsBlocked (p : Program) (s : SourceState) (q : ℕ) : Type 0 where
  pub goes_on : GoesOn s q
  pub rests : MayAct p s q → ⊥

-- some process is
abbrev pub HasBlocked : Program → SourceState → Type 0
HasBlocked p s = (q : ℕ) × IsBlocked p s q

-- processes' own actions lead from a state to another, but for what was printed
abbrev pub ComesTo : Program → SourceState → SourceState → Type 0
ComesTo p s r = (actions : List Action) × (s' : SourceState) × LeadsAlone p s actions s' × IsLike s' r

-- wherever a run leads to a state like this one, the process may do something still, unless it is over
abbrev pub IsLive : Program → SourceState → ℕ → Type 0
IsLive p s q = (actions : List Action) (e : SourceState) → IsRun p actions e → IsLike e s → GoesOn e q → MayAct p e q

-- a process stands where it may be held up: it enters a monitor, takes one again after a wait, or joins a process
abbrev pub MayWait : Process → Type 0
MayWait (Entering m f callers) = ⊤
MayWait (Suspended c f callers) = ⊤
MayWait (Joining child into part f callers) = ⊤
MayWait other = ⊥

-- a process stands there, and can't move
pub record IsHeldUp (p : Program) (s : SourceState) (q : ℕ) (at : Process) : Type 0 where
  pub stands : s.process q ≡ Some at
  pub rests : CanMove p s q → ⊥
