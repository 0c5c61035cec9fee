-- What is remembered of processes: what each comes to by its own actions.
use Rattle.std.specs.Prelude.{ℕ, zero, suc, ◌<◌, ◌≡◌, ◌++◌, All, Contains, List, Option, Some, length, map, ⊤, [], ◌∷◌}
use Rattle.std.specs.List.{slice_get}
use Rattle.words.specs.Updates.{put}
use Rattle.program.specs.Trees.{Program}
use Rattle.meaning.specs.Processes.{Process}
use Rattle.meaning.specs.Runs.{CanMove}
use Rattle.meaning.specs.States.{SourceState}
use Rattle.proof_exploration.specs.Exploring.{IsLike}
use Rattle.source_reaching.specs.Among.{AreEnds}
use Rattle.source_offers.specs.declared.process.Process.{Process as ProcessOf}
use Rattle.source_search.specs.Covered.{IsAheadBeside}
use Rattle.source_search.specs.Packed.{process_in, processes_at}
use Rattle.source_search.specs.Spots.{IsSpotWithin, alone}
use Rattle.source_search.specs.declared.memo.Known.{Known as KnownOf}
use Rattle.source_search.specs.declared.memo.Memo.{Memo as MemoOf}
use Rattle.source_search.specs.declared.memo.Outcomes.{Outcomes as OutcomesOf}
use Rattle.source_search.specs.declared.memo.Outcomes.TheVariants.{Nothing, One, Several}
use Rattle.source_search.specs.declared.memo.Outcome.{Outcome as OutcomeOf}
use Rattle.source_search.specs.declared.packed.Packed.{Packed as PackedOf}
use Rattle.source_search.specs.declared.parts.Parts.{Parts as PartsOf}
use Rattle.source_search.specs.declared.spot.Spot.{Spot as SpotOf}

-- where the process stands behind an outcome
abbrev pub spot_at : ℕ → OutcomeOf → SpotOf
spot_at t o = record { process = t; part = o.part; table = o.table; variables = o.variables }

-- processes with one more, of this number and this part, unless the number is 0
abbrev pub with_child : List ProcessOf → ℕ → (ℕ → Option Process) → ℕ → ℕ → Option Process
with_child parts child process zero = process
with_child parts child process (suc m) = put process (suc m) (process_in parts child)

-- the state in which it stands behind an outcome, with the process that it made, and there is no other
abbrev pub behind : PartsOf → ℕ → OutcomeOf → SourceState
behind parts t o = record (alone parts (spot_at t o)) {
  process = with_child parts.processes.items o.child (alone parts (spot_at t o)).process o.made;
}

abbrev pub behind_all : PartsOf → ℕ → List OutcomeOf → List SourceState
behind_all parts t outcomes = map (behind parts t) outcomes

-- the parts of an outcome are there
pub record IsThere (parts : PartsOf) (t : ℕ) (o : OutcomeOf) : Type 0 where
  pub spot : IsSpotWithin parts (spot_at t o)
  pub child : o.child < length parts.processes.items

-- those of all of these are
abbrev pub AreWithin : PartsOf → ℕ → List OutcomeOf → Type 0
AreWithin parts t outcomes = All (IsThere parts t) outcomes

-- what a process comes to
abbrev pub listed_in : OutcomesOf → List OutcomeOf
listed_in Nothing = []
listed_in (One o) = o ∷ []
listed_in (Several outcomes) = outcomes.items

abbrev pub outcomes_of : KnownOf → List OutcomeOf
outcomes_of k = listed_in k.outcomes

-- the process comes to these from its spot, and can move where there are any
pub record IsKnown (p : Program) (parts : PartsOf) (k : KnownOf) : Type 0 where
  pub within : IsSpotWithin parts k.spot
  pub all : AreWithin parts k.spot.process (outcomes_of k)
  pub ends : AreEnds p k.spot.process (alone parts k.spot) (behind_all parts k.spot.process (outcomes_of k))
  pub moves : 0 < length (outcomes_of k) → CanMove p (alone parts k.spot) k.spot.process

-- all that is remembered of a process with a number is known
abbrev pub AreKnown : Program → PartsOf → MemoOf → Type 0
AreKnown p parts memo = All (λ (k : KnownOf). 0 < k.spot.process → IsKnown p parts k) memo.known.items

-- numbers end with a part behind so many others, which is the one of the process of the next number; with nothing where
-- the number is 0
abbrev pub EndSo : List ℕ → ℕ → ℕ → ℕ → Type 0
EndSo numbers before child zero = length numbers ≡ before
EndSo numbers before child (suc m) = (m ≡ before) × (length numbers ≡ suc before) × (slice_get numbers before ≡ Some child)

-- numbers of processes with one more behind the last one, unless its number is 0
abbrev pub IsPutBehind : List ℕ → ℕ → List ℕ → ℕ → Type 0
IsPutBehind numbers child numbers' zero = numbers' ≡ numbers
IsPutBehind numbers child numbers' (suc m) = (m ≡ length numbers) × (numbers' ≡ numbers ++ child ∷ [])

-- numbers of processes with this part at the place of a process, and with the process that was made
pub record IsPutWith (numbers : List ℕ) (process : ℕ) (o : OutcomeOf) (numbers' : List ℕ) : Type 0 where
  pub at : (parts : List ProcessOf) (q : ℕ) → processes_at parts numbers' q
      ≡ with_child parts o.child (put (processes_at parts numbers) process (process_in parts o.part)) o.made q
  pub within : (m : ℕ) → o.part < m → o.child < m → All (λ n. n < m) numbers → All (λ n. n < m) numbers'

-- a kept state with the process at this place, the table and the variables as an outcome has them, and with the process
-- that was made
pub record IsMovedTo (x : PackedOf) (place : ℕ) (o : OutcomeOf) (y : PackedOf) : Type 0 where
  pub table : y.table ≡ o.table
  pub variables : y.variables ≡ o.variables
  pub processes : IsPutWith x.processes.items (suc place) o y.processes.items

-- one of these is such a state
abbrev pub HasMoved : List PackedOf → PackedOf → ℕ → OutcomeOf → Type 0
HasMoved states x place o = (y : PackedOf) × Contains states y × IsMovedTo x place o y

-- of these numbers only one is not the process's own, or none where it is 0
abbrev pub AreOnly : List ℕ → ℕ → ℕ → Type 0
AreOnly numbers t zero = Contains numbers t → (q : ℕ) → Contains numbers q → q ≡ t
AreOnly numbers t (suc m) = (q : ℕ) → Contains numbers q → (q ≡ t → ⊥) → q ≡ suc m

-- this is the number of the part of the process of a number, or where that is 0 of another one
abbrev pub IsChild : List ProcessOf → (ℕ → Option Process) → ℕ → ℕ → ℕ → Type 0
IsChild parts process child part zero = child ≡ part
IsChild parts process child part (suc m) =
    (q : Process) × (process (suc m) ≡ Some q) × (process_in parts child ≡ Some q)

-- the state of the process, and of one that it made, in numbers of parts, but for what was printed
pub record IsNumbered (parts : PartsOf) (t : ℕ) (s : SourceState) (o : OutcomeOf) : Type 0 where
  pub there : IsThere parts t o
  pub like : IsLike (behind parts t o) s

-- whatever other processes there are beside, where the state behind an outcome is covered, so is this one
pub record IsOutcome (p : Program) (parts : PartsOf) (t : ℕ) (s : SourceState) (o : OutcomeOf) : Type 0 where
  pub there : IsThere parts t o
  pub ahead : IsAheadBeside p s (behind parts t o)

-- the same of states one by one
abbrev pub AreAhead : Program → List SourceState → List SourceState → Type 0
AreAhead p [] [] = ⊤
AreAhead p (s ∷ ss) (r ∷ rs) = IsAheadBeside p s r × AreAhead p ss rs
AreAhead p ss rs = ⊥

-- these states are outcomes, in numbers of parts
pub record AreOutcomes (p : Program) (parts : PartsOf) (t : ℕ) (ends : List SourceState) (outcomes : List OutcomeOf)
    : Type 0 where
  pub within : AreWithin parts t outcomes
  pub ahead : AreAhead p ends (behind_all parts t outcomes)

-- this is known of the process at the spot
pub record IsKnownAt (p : Program) (parts : PartsOf) (spot : SpotOf) (k : KnownOf) : Type 0 where
  pub same : k.spot ≡ spot
  pub known : IsKnown p parts k
