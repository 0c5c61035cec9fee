use Rattle.std.proofs.Common.{◌≡◌, ℕ, ◌<◌, ◌≤◌, ◌-◌, suc, true}
use Rattle.words.specs.Limits.{most_threads}
use Rattle.machine.specs.ThreadSets.{IsThread, has}
use Rattle.workers.specs.BucketWaiters.{IsWhole}
use Rattle.workers.specs.Calls.{was_called}
use Rattle.workers.proofs.pool.Pool.call_each.Given as goal

abbrev pub invariant-loop-t : goal.invariant-loop-t
invariant-loop-t g l = record {
  from_one : 1 ≤ l.from;
  within : l.from ≤ suc most_threads;
  each : (u : ℕ) → u < l.from → has l.threads u ≡ true → IsThread u → was_called l.called u ≡ true;
  whole : IsWhole l.called.workers;
  kept : (u : ℕ) → IsThread u → was_called l.fn.called u ≡ true → was_called l.called u ≡ true;
  starter : l.called.starter ≡ l.fn.called.starter;
}

abbrev pub decreases-loop-t : goal.decreases-loop-t
decreases-loop-t g l = suc most_threads - l.from
