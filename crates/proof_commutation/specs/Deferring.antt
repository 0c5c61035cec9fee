-- Actions of a process that may be deferred: they touch only what belongs to the process, so that the actions of
-- others may as well come before them.
use Rattle.std.specs.Prelude.{ℕ, ◌≡◌, Bool, true, false, List, [], ◌∷◌, Option, Some, None}
use Rattle.program.specs.Trees.{Program}
use Rattle.meaning.specs.Values.{Variables}
use Rattle.meaning.specs.Labels.{End, Kind, Label, Alone, FindsFull, FindsClaimed, kind_of}
use Rattle.meaning.specs.Labels as L
use Rattle.meaning.specs.Table.{Table, HeldBy, Allows}
use Rattle.meaning.specs.Processes.{Process, Over}
use Rattle.meaning.specs.Offers.{Nothing, offer, TakesUp}
use Rattle.meaning.specs.States.{SourceState}

-- an internal action, which no other process sees: of a local, a test, a call, a return, a fault
abbrev pub is_internal : Label → Bool
is_internal (Alone (L.Print number)) = false
is_internal (Alone kind) = true
is_internal FindsFull = true
is_internal (FindsClaimed child) = true
is_internal label = false

-- the same values in the monitors that process t holds
abbrev pub SameHeld : ℕ → Table → Variables → Variables → Type 0
SameHeld t T v v' = (m : ℕ) → T.hold m ≡ HeldBy t → (n i : ℕ) → v m n i ≡ v' m n i

-- process t, where it stands, may take the internal action, whatever becomes of the monitors that it doesn't hold; and
-- it isn't over behind it
pub record MayDefer (p : Program) (t : ℕ) (v : Variables) (T : Table) (q : Process) (label : Label)
    (r : Process) : Type 0 where
  pub internal : is_internal label ≡ true
  pub takes : (v' : Variables) → SameHeld t T v v' → TakesUp (offer p v' q) label Nothing r
  pub allows : Allows t label T T
  pub goes_on : (end : End) → r ≡ Over end → ⊥

-- deferred actions, in order: they lead the process from one place to another
abbrev pub LeadsDeferred : Program → ℕ → Variables → Table → List Kind → Process → Process → Type 0
LeadsDeferred p t v T [] q r = q ≡ r
LeadsDeferred p t v T (k ∷ ks) q r =
    (label : Label) × (mid : Process) × (k ≡ kind_of label) × MayDefer p t v T q label mid
    × LeadsDeferred p t v T ks mid r

-- the same of process t, in a state and in the one behind these actions
abbrev pub LeadsDeferredAt : Program → ℕ → Variables → Table → List Kind → Option Process → Option Process → Type 0
LeadsDeferredAt p t v T ks None None = ks ≡ []
LeadsDeferredAt p t v T ks (Some q) (Some r) = LeadsDeferred p t v T ks q r
LeadsDeferredAt p t v T ks None (Some r) = ⊥
LeadsDeferredAt p t v T ks (Some q) None = ⊥

-- a state in which these actions of each process are still deferred that were taken in another
pub record IsBehind (p : Program) (deferred : ℕ → List Kind) (a c : SourceState) : Type 0 where
  pub table : a.table ≡ c.table
  pub variables : a.variable ≡ c.variable
  pub printed : a.printed ≡ c.printed
  pub processes : (t : ℕ) → LeadsDeferredAt p t c.variable c.table (deferred t) (a.process t) (c.process t)
