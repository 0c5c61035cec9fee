-- An offer that is taken up by an action of a name.
use Rattle.std.specs.Prelude.{ℕ, ◌≡◌, Bool, true, false}
use Rattle.meaning.specs.Labels.{Kind, Label, kind_of}
use Rattle.meaning.specs.Processes.{Process}
use Rattle.meaning.specs.Offers.{Effect, Offer, TakesUp}
use Rattle.meaning.specs.States.{SourceState}
use Rattle.source_states.specs.Done.{IsDone}

-- an action of this process and of this name takes up the offer, and leads from a state to another
pub record IsTakenUp (n : ℕ) (kind : Kind) (o : Offer) (s s' : SourceState) : Type 0 where
  pub label : Label
  pub effect : Effect
  pub after : Process
  pub takes : TakesUp o label effect after
  pub named : kind ≡ kind_of label
  pub done : IsDone n label effect after s s'

-- possible, and this is the state it leads to; or not possible
abbrev pub IsAnswer : Bool → (SourceState → Type 0) → SourceState → Type 0
IsAnswer true Leads s = Leads s
IsAnswer false Leads s = (u : SourceState) → Leads u → ⊥
