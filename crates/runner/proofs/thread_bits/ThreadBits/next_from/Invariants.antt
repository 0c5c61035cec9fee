use Rattle.std.proofs.Common.{◌≤◌}
use Rattle.machine.proofs.Leasts.{IsPassed}
use Rattle.runner.proofs.thread_bits.ThreadBits.next_from.Given as goal

abbrev pub invariant-loop-place : goal.invariant-loop-place
invariant-loop-place l = IsPassed l.self.words l.t l.place l.low × (l.place ≤ 16)
