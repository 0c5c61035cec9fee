-- When an offer can be taken up.
use Rattle.std.specs.Prelude.{ℕ, ◌≡◌, ◌⊎◌, ◌++◌, Bool, List, [], ◌∷◌}
use Rattle.meaning.specs.Labels.{Label}
use Rattle.meaning.specs.Processes.{Process}
use Rattle.meaning.specs.Offers.{Effect, Offer, TakesUp}
use Rattle.meaning.specs.Table.{Table, Allows, enterable}

-- some action of the process takes up the offer, and the table allows it
pub record CanBeTakenUp (n : ℕ) (t : Table) (o : Offer) : Type 0 where
  pub label : Label
  pub effect : Effect
  pub after : Process
  pub leaves : Table
  pub takes : TakesUp o label effect after
  pub allows : Allows n label t leaves

-- the monitor is free or abandoned
abbrev pub IsEnterable : Table → ℕ → Type 0
IsEnterable t m = (was_abandoned : Bool) × (t.hold m ≡ enterable was_abandoned)

-- a number of this kind is added, and no other
abbrev pub IsAdded : Type 0 → ℕ → List ℕ → List ℕ → Type 0
IsAdded Is n before after = (Is × (after ≡ before ++ n ∷ [])) ⊎ ((Is → ⊥) × (after ≡ before))
