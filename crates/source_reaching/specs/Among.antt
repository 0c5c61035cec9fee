-- What a process does, whatever the other processes are.
use Rattle.std.specs.Prelude.{ℕ, All, IsSome, List, Option, Some, None}
use Rattle.program.specs.Trees.{Program}
use Rattle.meaning.specs.Labels.{Action, Kind}
use Rattle.meaning.specs.Processes.{Process}
use Rattle.meaning.specs.Runs.{IsAction}
use Rattle.meaning.specs.States.{SourceState}
use Rattle.proof_exploration.specs.Searching.{IsCovered}
use Rattle.source_reaching.specs.Choices.{by}
use Rattle.source_reaching.specs.Covered.{IsAhead}

-- one process, or where there is none another
abbrev pub or_else : Option Process → Option Process → Option Process
or_else None other = other
or_else (Some q) other = Some q

-- a state with these processes beside its own
abbrev pub among : (ℕ → Option Process) → SourceState → SourceState
among others s = record s { process = λ q. or_else (s.process q) (others q) }

-- there is the process still; and whatever the others are, where the second state is covered, the first is
abbrev pub IsAheadAmong : Program → ℕ → SourceState → SourceState → Type 0
IsAheadAmong p t s s' = IsSome (s.process t)
    → IsSome (s'.process t) × ((others : ℕ → Option Process) → IsAhead p (among others s) (among others s'))

-- all of these states are covered in so many actions, with these others beside
abbrev pub AreCovered : Program → List SourceState → ℕ → (ℕ → Option Process) → List SourceState → Type 0
AreCovered p kept n others ends = All (λ e. IsCovered p kept n (among others e)) ends

-- what a process's own action of this name leads to is covered, in some number of actions
abbrev pub LeadsOwn : Program → List SourceState → SourceState → Action → Type 0
LeadsOwn p kept s a = (m : ℕ) × ((s' : SourceState) → IsAction p s a s' → IsCovered p kept m s')

-- there is the process still; and whatever the others are, where the second state is covered, so is what the action
-- leads to
abbrev pub Reaches : Program → ℕ → SourceState → Action → SourceState → Type 0
Reaches p t s a s' = IsSome (s.process t)
    → IsSome (s'.process t) × ((others : ℕ → Option Process) (kept : List SourceState) (n : ℕ)
    → IsCovered p kept n (among others s') → LeadsOwn p kept (among others s) a)

-- whatever the others are, where these ends are covered, so is what the action leads to
abbrev pub LeadsToEnds : Program → ℕ → SourceState → List SourceState → Action → Type 0
LeadsToEnds p t s ends a = IsSome (s.process t) → (others : ℕ → Option Process) (kept : List SourceState) (n : ℕ)
    → AreCovered p kept n others ends → LeadsOwn p kept (among others s) a

-- so is what each action of the process's own leads to
abbrev pub AreEnds : Program → ℕ → SourceState → List SourceState → Type 0
AreEnds p t s ends = (kind : Kind) → LeadsToEnds p t s ends (by t kind)
