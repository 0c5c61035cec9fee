-- Which kept states are live for a thread, and which are closed, as a search marks them.
use Rattle.std.specs.Prelude.{ℕ, suc, ◌≡◌, ◌<◌, ◌≤◌, Bool, Contains, List, [], ◌∷◌, Some, length, true, false}
use Rattle.std.specs.List.{slice_get}
use Rattle.words.specs.Versions.{most_of}
use Rattle.isa.specs.Programs.{Program}
use Rattle.locals.specs.Threads.{Thread}
use Rattle.machine.specs.Runs.{CanStep, NextIsBroken}
use Rattle.machine.specs.States.{State, state_of, thread_of}
use Rattle.machine.specs.Views.{View, concrete}
use Rattle.proof_pieces.specs.WholeCalls.{IsWholeStep}
use Rattle.proof_image_search.specs.Searching.{IsCovered, Kept}
use Rattle.proof_image_liveness.specs.Sleeping.{AreLive, IsLive, IsWakened, LeadsOn}
use Rattle.image_states.specs.Nexts.{RunsOn}
use Rattle.image_states.specs.Packed.{asleep_at, thread_at, words_in, IsGrown, IsSameKey}
use Rattle.image_states.specs.declared.packed.Packed.{Packed as PackedOf}
use Rattle.image_states.specs.declared.parts.Parts.{Parts as PartsOf}
use Rattle.image_search.specs.declared.kept.KeptStates.{KeptStates as KeptOf}
use Rattle.image_search.specs.Kept.{IsApartIn, states_of}

-- the same states, of more parts
pub record IsStill (kept kept' : KeptOf) : Type 0 where
  pub parts : IsGrown kept.parts kept'.parts
  pub states : kept'.states ≡ kept.states
  pub most : kept'.most ≡ kept.most

-- a state of the same numbers is kept at a place that is flagged
pub record IsFlagged (kept : KeptOf) (flags : List Bool) (x : PackedOf) : Type 0 where
  pub place : ℕ
  pub state : PackedOf
  pub flagged : slice_get flags place ≡ Some true
  pub here : slice_get kept.states.items place ≡ Some state
  pub same : IsSameKey state x

-- each state that is flagged is one of these
abbrev pub AreFlagged : Program → KeptOf → List Bool → List Kept → Type 0
AreFlagged p kept flags lives = (i : ℕ) (r : Kept) → slice_get flags i ≡ Some true → slice_get (states_of p kept) i ≡ Some r
    → Contains lives r

-- this holds of the state that is kept at a place
abbrev pub HoldsAt : Program → KeptOf → ℕ → (Kept → Type 0) → Type 0
HoldsAt p kept place Holds = (r : Kept) → slice_get (states_of p kept) place ≡ Some r → Holds r

-- wherever each flagged state is one of some, each step of thread u's own from this state leads to what those cover
abbrev pub OwnLeads : Program → KeptOf → List Bool → ℕ → Kept → Type 0
OwnLeads p kept flags u r = (lives : List Kept) → AreFlagged p kept flags lives → (woken : List ℕ) (s : State)
    → IsWholeStep p r.state u woken s → (m : ℕ) × IsCovered p kept.parts.alone lives m s r.killed

-- thread u can step
pub record CanGo (p : Program) (u : ℕ) (r : Kept) : Type 0 where
  pub can : CanStep r.state u
  pub whole : NextIsBroken p r.state u → ⊥

-- wherever each flagged state is one of some, a step leads on to what those cover
abbrev pub LeadsAt : Program → KeptOf → List Bool → Kept → Type 0
LeadsAt p kept flags r = (lives : List Kept) → AreFlagged p kept flags lives → LeadsOn p kept.parts.alone lives r

-- or thread t is awake
abbrev pub LivesAt : Program → ℕ → KeptOf → List Bool → Kept → Type 0
LivesAt p t kept flags r =
    (lives : List Kept) → AreFlagged p kept flags lives → IsLive p kept.parts.alone t lives r

-- the flagged states are live for thread t
pub record AreKnown (p : Program) (t : ℕ) (kept : KeptOf) (flags : List Bool) : Type 0 where
  pub lives : List Kept
  pub live : AreLive p kept.parts.alone t lives
  pub flagged : AreFlagged p kept flags lives

-- whoever sleeps as thread t in a kept state is wakened
abbrev pub AllWakened : Program → ℕ → KeptOf → Type 0
AllWakened p t kept =
    (r : Kept) → Contains (states_of p kept) r → (a : ℕ) → r.state.asleep t ≡ Some a → IsWakened p kept.parts.alone t r

-- those of these that are flagged
abbrev pub flagged : List Bool → List Kept → List Kept
flagged [] rs = []
flagged (true ∷ flags) [] = []
flagged (false ∷ flags) [] = []
flagged (true ∷ flags) (r ∷ rs) = r ∷ flagged flags rs
flagged (false ∷ flags) (r ∷ rs) = flagged flags rs

-- thread t sleeps in this state, and each step of a thread's own from it leads to what those cover of which each flagged
-- state is one
pub record IsClosed (p : Program) (t : ℕ) (kept : KeptOf) (flags : List Bool) (r : Kept) : Type 0 where
  pub sleeps : (a : ℕ) × (r.state.asleep t ≡ Some a)
  pub leads : (u : ℕ) → OwnLeads p kept flags u r
  pub apart : IsApartIn p kept.parts.alone r

-- thread t sleeps in this state
abbrev pub SleepsAt : ℕ → Kept → Type 0
SleepsAt t r = (a : ℕ) × (r.state.asleep t ≡ Some a)

-- thread t sleeps in a packed state where it does in the machine
abbrev pub SameAsleep : View → PackedOf → ℕ → Type 0
SameAsleep v x t = asleep_at x.places.items t ≡ (state_of (concrete v)).asleep t

-- its local steps lead it from where it stands in the machine to where it stands in the packed state
pub record StandsOn (p : Program) (parts : PartsOf) (v : View) (x : PackedOf) (t : ℕ) : Type 0 where
  pub here : Thread
  pub there : Thread
  pub count : ℕ
  pub stands : thread_of (concrete v) t ≡ Some here
  pub is : thread_at parts.locals.items x.parts.items t ≡ Some there
  pub runs : RunsOn p t count here there

-- the state that is kept at a place is the machine's, but for what was printed, and for local steps by which threads are
-- further on
pub record IsThere (p : Program) (kept : KeptOf) (place : ℕ) (v : View) : Type 0 where
  pub packed : PackedOf
  pub here : slice_get kept.states.items place ≡ Some packed
  pub most : kept.parts.most ≡ most_of p.version
  pub words : words_in kept.parts.memories.items packed.memory ≡ v.words
  pub made : length packed.parts.items ≡ length v.threads
  pub few : length packed.places.items ≤ length v.threads
  pub sleeps : (k : ℕ) → k < length v.threads → SameAsleep v packed (suc k)
  pub stands : (k : ℕ) → k < length v.threads → StandsOn p kept.parts v packed (suc k)
