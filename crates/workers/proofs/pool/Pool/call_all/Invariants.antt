use Rattle.std.proofs.Common.{◌≡◌, ℕ, ◌<◌, true}
use Rattle.machine.specs.ThreadSets.{IsThread}
use Rattle.workers.specs.BucketWaiters.{IsWhole}
use Rattle.workers.specs.Calls.{was_called}
use Rattle.workers.proofs.pool.Pool.call_all.Given as goal

abbrev pub invariant-loop-t : goal.invariant-loop-t
invariant-loop-t g l = record {
  each : (u : ℕ) → IsThread u → u < l.t → was_called l.called u ≡ true;
  whole : IsWhole l.called.workers;
  starter : l.called.starter ≡ true;
}
