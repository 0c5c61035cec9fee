-- The actions that are tried of a process.
use Rattle.std.specs.Prelude.{ℕ, List, Bool, Contains, Vec, filter, map}
use Rattle.std.specs.Global.{Global}
use Rattle.program.specs.Trees.{Program}
use Rattle.meaning.specs.Labels.{Action, Kind, Label, kind_of}
use Rattle.meaning.specs.Offers.{Effect, Offer, TakesUp}
use Rattle.meaning.specs.Processes.{Process}
use Rattle.meaning.specs.Runs.{IsAction}
use Rattle.meaning.specs.States.{SourceState}
use Rattle.meaning.specs.Table.{Table, Allows}

-- an action of this process
abbrev pub by : ℕ → Kind → Action
by n kind = record { process = n; kind = kind }

-- one of these actions of the process takes up the offer, with this effect and to this table
pub record IsTried (n : ℕ) (o : Offer) (t : Table) (actions : List Action) (effect : Effect) (after : Process)
    (t' : Table) : Type 0 where
  pub label : Label
  pub listed : Contains actions (by n (kind_of label))
  pub takes : TakesUp o label effect after
  pub allows : Allows n label t t'

-- whatever takes up the offer, where the table allows it, one of these actions does, with the same effect and to the same
-- table
abbrev pub AllTakeUp : ℕ → Offer → Table → List Action → Type 0
AllTakeUp n o t actions = (label : Label) (effect : Effect) (after : Process) (t' : Table)
    → TakesUp o label effect after → Allows n label t t' → IsTried n o t actions effect after t'

-- whatever the process does of its own in this state, one of these actions leads to the same state
abbrev pub AreOwnChoices : Program → SourceState → ℕ → List Action → Type 0
AreOwnChoices p s n actions = (kind : Kind) (s' : SourceState) → IsAction p s (by n kind) s'
    → (k : Kind) × Contains actions (by n k) × IsAction p s (by n k) s'

-- for each set, the numbers in it are one of the lists
abbrev pub HasEachSet : List ℕ → List (List ℕ) → Type 0
HasEachSet numbers lists = (is_in : ℕ → Bool) → Contains lists (filter is_in numbers)

-- lists, as their numbers
abbrev pub lists_in : List (Vec ℕ Global) → List (List ℕ)
lists_in lists = map (λ (list : Vec ℕ Global). list.items) lists
