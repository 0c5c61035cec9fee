-- Whether an action was done, or the table doesn't allow it.
use Rattle.std.specs.Prelude.{ℕ, ◌≡◌, Bool, true, false, Option, Some, None}
use Rattle.meaning.specs.Labels.{Label}
use Rattle.meaning.specs.Table.{Table, Allows}

-- nothing of this kind is allowed
abbrev pub RefusesChange : (Table → Type 0) → Type 0
RefusesChange Leads = (t : Table) → Leads t → ⊥

-- done, which leads to the second table; or refused, and the first is as it was
abbrev pub IsDecided : Bool → (Table → Type 0) → Table → Table → Type 0
IsDecided true Leads t t' = Leads t'
IsDecided false Leads t t' = RefusesChange Leads × (t' ≡ t)

-- a monitor was taken, and whether it was abandoned; or it can't be taken, and the first table is as it was
abbrev pub IsTaken : Option Bool → ℕ → (Bool → Label) → Table → Table → Type 0
IsTaken (Some was_abandoned) p label t t' = Allows p (label was_abandoned) t t'
IsTaken None p label t t' = ((was_abandoned : Bool) → RefusesChange (Allows p (label was_abandoned) t)) × (t' ≡ t)
