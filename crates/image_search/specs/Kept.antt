-- The states that a search keeps.
use Rattle.std.specs.Prelude.{ℕ, ◌≡◌, ◌<◌, ◌≤◌, ◌⊎◌, All, Bool, Contains, List, MatchBool, Some, length, map, ◌^◌, ◌+◌, true, false}
use Rattle.std.specs.List.{slice_get}
use Rattle.isa.specs.Programs.{Program}
use Rattle.machine.specs.Runs.{NextIsBroken}
use Rattle.proof_image_search.specs.Searching.{HasFailed, IsApart, IsExpanded, IsStuck, Kept, May}
use Rattle.image_states.specs.Packed.{IsGrown, IsOutOfNumbers, IsPrefix, IsSameKey, IsWithin, kept_of}
use Rattle.image_states.specs.Reasons.{IsWhy}
use Rattle.image_states.specs.declared.bound.Bound.{Bound as WhyOf}
use Rattle.image_states.specs.declared.bound.Bound.TheVariants as reason
use Rattle.image_states.specs.declared.packed.Packed.{Packed as PackedOf}
use Rattle.image_states.specs.declared.parts.Parts.{Parts as PartsOf}
use Rattle.image_search.specs.declared.ending.Bound.{Bound}
use Rattle.image_search.specs.declared.ending.Bound.TheVariants.{States, Nexts, Choice}
use Rattle.image_search.specs.declared.kept.KeptStates.{KeptStates as KeptOf}
use Rattle.image_search.specs.declared.ends.Ends.{Ends as EndsOf}

-- a state of the same numbers is one of these
abbrev pub HasKey : List PackedOf → PackedOf → Type 0
HasKey states x = (y : PackedOf) × Contains states y × IsSameKey y x

-- one is at a place
abbrev pub HasKeyAt : List PackedOf → ℕ → PackedOf → Type 0
HasKeyAt states n x = (y : PackedOf) × (slice_get states n ≡ Some y) × IsSameKey y x

-- the states that these stand for
abbrev pub states_in : Program → PartsOf → List PackedOf → List Kept
states_in p parts states = map (kept_of p parts) states

-- those that are kept
abbrev pub states_of : Program → KeptOf → List Kept
states_of p kept = states_in p kept.parts kept.states.items

-- the parts of all of them are there
abbrev pub IsSound : KeptOf → Type 0
IsSound kept = All (IsWithin kept.parts) kept.states.items

-- more is kept, behind what was, of more parts, and as many may be
pub record IsMore (kept kept' : KeptOf) : Type 0 where
  pub parts : IsGrown kept.parts kept'.parts
  pub states : IsPrefix kept.states.items kept'.states.items
  pub most : kept'.most ≡ kept.most

-- more is kept of the same parts
pub record IsMoreOf (kept kept' : KeptOf) : Type 0 where
  pub parts : kept'.parts ≡ kept.parts
  pub states : IsPrefix kept.states.items kept'.states.items
  pub most : kept'.most ≡ kept.most

-- as many are kept as may be
abbrev pub IsFull : KeptOf → Type 0
IsFull kept = kept.most ≤ length kept.states.items

-- a bound that is met where a state is kept
abbrev pub IsMetBy : KeptOf → Bound → Type 0
IsMetBy kept States = IsFull kept
IsMetBy kept (Nexts reason.Parts) = IsOutOfNumbers kept.parts
IsMetBy kept (Nexts reason.Sleepers) = ⊥
IsMetBy kept Choice = ⊥

-- no end that is looked for: some thread can move or all have ended, none is dying of a fault, and no thread's next step may
-- not be
pub record IsPlain (p : Program) (r : Kept) : Type 0 where
  pub moves : IsStuck r.state → ⊥
  pub lives : HasFailed r.state → ⊥
  pub steps : (t : ℕ) → NextIsBroken p r.state t → ⊥

-- an end that is looked for; or there are more threads than their numbers
abbrev pub IsEnd : Program → Kept → Type 0
IsEnd p r =
    IsStuck r.state ⊎ HasFailed r.state ⊎ ((t : ℕ) × NextIsBroken p r.state t) ⊎ (2 ^ 32 ≤ r.state.made + 1)

-- so far so many ends were passed over, and this state is plain, or one more
abbrev pub IsTold : Program → ℕ → ℕ → Kept → Type 0
IsTold p passed passed' r = ((passed' ≡ passed) × IsPlain p r) ⊎ ((0 < passed') × IsEnd p r)

-- the state that was kept at a place is expanded by what is kept now, and told
pub record IsLookedAt (p : Program) (alone : Bool) (may : May) (kept kept' : List Kept) (place passed passed' : ℕ) : Type 0
  where
    pub state : Kept
    pub here : slice_get kept place ≡ Some state
    pub expanded : IsExpanded p alone may kept' state
    pub told : IsTold p passed passed' state

-- the state that is kept at a place is told
abbrev pub IsToldAt : Program → List Kept → ℕ → ℕ → ℕ → Type 0
IsToldAt p kept place passed passed' =
    (r : Kept) × (slice_get kept place ≡ Some r) × IsTold p passed passed' r

-- the state that was kept at a place is expanded by what is kept now
abbrev pub IsExpandedAt : Program → (alone : Bool) → May → List Kept → List Kept → ℕ → Type 0
IsExpandedAt p alone may kept kept' place = (r : Kept) × (slice_get kept place ≡ Some r) × IsExpanded p alone may kept' r

-- where exits are followed alone, no thread's next step sees it in this state
abbrev pub IsApartIn : Program → (alone : Bool) → Kept → Type 0
IsApartIn p alone r = alone ≡ true → IsApart p r.state

-- which ends a state is, as the code tells
pub record AreEnds (p : Program) (r : Kept) (e : EndsOf) : Type 0 where
  pub stuck : MatchBool e.stuck (IsStuck r.state) (IsStuck r.state → ⊥)
  pub failed : MatchBool e.failed (HasFailed r.state) (HasFailed r.state → ⊥)
  pub broken : e.broken ≡ true → ((t : ℕ) × NextIsBroken p r.state t) ⊎ (2 ^ 32 ≤ r.state.made + 1)
  pub whole : e.broken ≡ false → (t : ℕ) → NextIsBroken p r.state t → ⊥

-- why not all that may come next of the state at a place was found
abbrev pub IsWhyAt : PartsOf → List PackedOf → ℕ → WhyOf → Type 0
IsWhyAt parts states place why = (x : PackedOf) × (slice_get states place ≡ Some x) × IsWhy parts x why
