use Rattle.std.proofs.Common.{◌≡◌, length}
use Rattle.buckets.specs.Sleepers.{thread_count}
use Rattle.test_layers.proofs.walk.walk.Given as goal

abbrev pub invariant-loop-step : goal.invariant-loop-step
invariant-loop-step l = (length l.mem ≡ length l.initial.mem)
    × (thread_count l.buckets ≡ thread_count l.initial.buckets)
