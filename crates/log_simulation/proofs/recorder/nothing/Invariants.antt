use Rattle.std.proofs.Common.{◌≡◌, [], length}
use Rattle.log_simulation.specs.Deferred.{CountsDeferred}
use Rattle.log_simulation.proofs.recorder.nothing.Given as goal

abbrev pub invariant-loop : goal.invariant-loop
invariant-loop l = record {
  many : length l.deferred.items ≡ l.counter;
  none : CountsDeferred l.deferred.items (λ t. []);
}
