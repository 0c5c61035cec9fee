-- A request on an address in the memory.
use Rattle.std.proofs.Common.{◌≡◌, ℕ, ◌<◌, length, Result}
use Rattle.std.proofs.lemmas.Bool.{lt-ltb, cond-true}
use Rattle.machine.specs.declared.event.StepFault.{StepFault}
use Rattle.machine.specs.States.{Common}
use Rattle.machine.specs.ConcreteServing.{Served, within}

pub inside : (c : Common) (a : ℕ) (r : Result Served StepFault) → a < length c.words → within c a r ≡ r
inside c a r l = cond-true _ _ _ (lt-ltb a (length c.words) l)
