-- How a search ends, and what it knows then.
use Rattle.std.specs.Prelude.{ℕ, ◌≡◌, ◌<◌, ◌≤◌, ◌⊎◌, All, Bool, Contains, List, length}
use Rattle.isa.specs.Programs.{Program}
use Rattle.proof_image_search.specs.Searching.{IsComplete, IsCompleteBy, Kept, May}
use Rattle.image_states.specs.Packed.{IsOutOfNumbers, asleep_at}
use Rattle.image_states.specs.declared.bound.Bound.TheVariants as reason
use Rattle.image_states.specs.declared.packed.Packed.{Packed as PackedOf}
use Rattle.runner.specs.declared.schedule.Turn.{Turn}
use Rattle.image_states.specs.Crowds.{IsCrowded}
use Rattle.image_search.specs.Found.{EndsCrowded, EndsFailed, EndsStuck, LeadsTo, LeadsToBroken}
use Rattle.image_search.specs.Kept.{IsEnd, IsFull, IsPlain, states_of}
use Rattle.image_search.specs.declared.kept.KeptStates.{KeptStates as KeptOf}
use Rattle.image_search.specs.declared.ending.Bound.{Bound}
use Rattle.image_search.specs.declared.ending.Bound.TheVariants.{States, Nexts, Choice}
use Rattle.image_search.specs.declared.ending.Ending.{Ending}
use Rattle.image_search.specs.declared.ending.Ending.TheVariants.{Complete, Stuck, Failed, Broken, Bounded}
use Rattle.image_search.specs.declared.ending.ImageExploration.{ImageExploration}

-- a schedule leads to where more than twelve threads sleep on one address
abbrev pub LeadsToCrowd : Program → May → Type 0
LeadsToCrowd p may = (turns : List Turn) × LeadsTo p may EndsCrowded turns

-- more than twelve sleep so in a state that is kept
abbrev pub HasCrowd : KeptOf → Type 0
HasCrowd kept = (x : PackedOf) × Contains kept.states.items x × IsCrowded (asleep_at x.places.items)

-- a bound that is met where what may come next of a kept state is looked for
abbrev pub IsMetIn : Program → May → KeptOf → Bound → Type 0
IsMetIn p may kept States = IsFull kept
IsMetIn p may kept (Nexts reason.Parts) = IsOutOfNumbers kept.parts
IsMetIn p may kept (Nexts reason.Sleepers) = LeadsToCrowd p may
IsMetIn p may kept Choice = HasCrowd kept

-- the states are of parts of which there are as many as numbers
abbrev pub AreOutOfNumbers : Program → List Kept → Type 0
AreOutOfNumbers p states = (kept : KeptOf) × (states_of p kept ≡ states) × IsOutOfNumbers kept.parts

-- a search that may keep so many states, and keeps these, has met this bound
abbrev pub IsMet : Program → May → ℕ → List Kept → Bound → Type 0
IsMet p may most kept States = most ≤ length kept
IsMet p may most kept (Nexts reason.Parts) = AreOutOfNumbers p kept
IsMet p may most kept (Nexts reason.Sleepers) = LeadsToCrowd p may
IsMet p may most kept Choice = (r : Kept) × Contains kept r × (IsEnd p r ⊎ IsCrowded r.state.asleep)

-- nothing is left to keep, and nothing that is kept is an end that is looked for
pub record AreAll (p : Program) (may : May) (kept : List Kept) : Type 0 where
  pub complete : IsComplete p may kept
  pub plain : All (IsPlain p) kept

-- the same, by whether exits were followed alone
pub record AreAllBy (p : Program) (alone : Bool) (may : May) (kept : List Kept) : Type 0 where
  pub complete : IsCompleteBy p alone may kept
  pub plain : All (IsPlain p) kept

abbrev pub HasEndedBy : Program → (alone : Bool) → May → ℕ → List Kept → Ending → Type 0
HasEndedBy p alone may most kept Complete = AreAllBy p alone may kept
HasEndedBy p alone may most kept (Stuck turns) = LeadsTo p may EndsStuck turns.items
HasEndedBy p alone may most kept (Failed turns) = LeadsTo p may EndsFailed turns.items
HasEndedBy p alone may most kept (Broken turns) = LeadsToBroken p may turns.items
HasEndedBy p alone may most kept (Bounded bound) = IsMet p may most kept bound

-- what an ending says of the states that are kept then
abbrev pub HasEnded : Program → May → ℕ → List Kept → Ending → Type 0
HasEnded p may most kept Complete = AreAll p may kept
HasEnded p may most kept (Stuck turns) = LeadsTo p may EndsStuck turns.items
HasEnded p may most kept (Failed turns) = LeadsTo p may EndsFailed turns.items
HasEnded p may most kept (Broken turns) = LeadsToBroken p may turns.items
HasEnded p may most kept (Bounded bound) = IsMet p may most kept bound

-- how a search ends that has looked at all states, of which so many are ends
abbrev pub EndsSo : ℕ → Ending → Type 0
EndsSo passed Complete = passed ≡ 0
EndsSo passed (Bounded Choice) = 0 < passed
EndsSo passed other = ⊥

-- so many states were kept of those that may be, and so the search ended
pub record HasSearched (p : Program) (may : May) (most : ℕ) (e : ImageExploration) : Type 0 where
  pub kept : List Kept
  pub count : length kept ≡ e.states
  pub ended : HasEnded p may most kept e.ending
