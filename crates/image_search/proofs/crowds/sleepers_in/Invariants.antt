use Rattle.std.proofs.Common.{◌≡◌, ◌≤◌}
use Rattle.machine.specs.States.{state_of}
use Rattle.machine.specs.Views.{concrete}
use Rattle.image_states.specs.Crowds.{sleepers_on}
use Rattle.image_search.proofs.crowds.sleepers_in.Given as goal

abbrev pub invariant-loop-before : goal.invariant-loop-before
invariant-loop-before l = record {
  is : l.count ≡ sleepers_on (state_of (concrete l.machine)).asleep l.a.0 l.before;
  few : l.count ≤ l.before;
}
