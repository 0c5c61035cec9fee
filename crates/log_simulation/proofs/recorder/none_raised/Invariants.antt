use Rattle.std.proofs.Common.{◌≡◌, false, length}
use Rattle.log_simulation.specs.Deferred.{Raises}
use Rattle.log_simulation.proofs.recorder.none_raised.Given as goal

abbrev pub invariant-loop : goal.invariant-loop
invariant-loop l = record {
  many : length l.raised.items ≡ l.counter;
  none : Raises l.raised.items (λ t. false);
}
