use Rattle.std.proofs.Common.{◌≡◌, ℕ, ◌<◌, ◌≤◌, true}
use Rattle.machine.specs.Runs.{has_ended}
use Rattle.machine.specs.States.{thread_of}
use Rattle.machine.specs.Views.{concrete}
use Rattle.machine.proofs.machine.Machine.all_ended.Given as goal

abbrev pub invariant-loop-t : goal.invariant-loop-t
invariant-loop-t l = (k : ℕ) → 0 < k → k ≤ l.t → has_ended (thread_of (concrete l.self) k) ≡ true
