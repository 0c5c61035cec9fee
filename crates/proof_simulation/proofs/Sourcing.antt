-- Actions of the source, one by one.
use Rattle.std.proofs.Common.{◌≡◌, ℕ, Some, refl, inl}
use Rattle.program.specs.Trees.{Program}
use Rattle.meaning.specs.Labels.{Label, kind_of}
use Rattle.meaning.specs.Table.{Table, Allows}
use Rattle.meaning.specs.Processes.{Process}
use Rattle.meaning.specs.Offers.{Effect, offer, TakesUp}
use Rattle.meaning.specs.States.{SourceState}
use Rattle.meaning.specs.Runs.{IsStep}
pub use Rattle.proof_simulation.specs.Ordering.{act, state_after}

pub action : (p : Program) (c : SourceState) (t : ℕ) (q r : Process) (label : Label) (effect : Effect) (T : Table)
    → c.process t ≡ Some q → TakesUp (offer p c.variable q) label effect r → Allows t label c.table T
    → IsStep p c (act t (kind_of label)) (state_after c t effect r T)
action p c t q r label effect T there takes allows = inl (record {
  before = q;
  after = r;
  label = label;
  effect = effect;
  stands = there;
  acts = takes;
  named = refl;
  allows = allows;
  variables = refl;
  printed = refl;
  processes = refl;
})
