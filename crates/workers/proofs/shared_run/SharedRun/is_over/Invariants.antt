use Rattle.std.proofs.Common.{◌≡◌, ◌≤◌, ◌<◌, ◌-◌, ℕ, suc, true, ◌||◌}
use Rattle.words.specs.Limits.{most_threads}
use Rattle.machine.specs.ConcreteSteps.{can_move}
use Rattle.workers.specs.BucketWaiters.{waits}
use Rattle.workers.specs.SharedRuns.{state_of}
use Rattle.workers.proofs.shared_run.SharedRun.is_over.Given as goal

abbrev pub invariant-loop-t : goal.invariant-loop-t
invariant-loop-t g l = record {
  within : l.from ≤ suc most_threads;
  each : (u : ℕ) → u < l.from → can_move (state_of l.self) u ≡ true
      → (waits l.self.waiting u || waits l.self.refused u) ≡ true;
}

abbrev pub decreases-loop-t : goal.decreases-loop-t
decreases-loop-t g l = suc most_threads - l.from
