use Rattle.std.proofs.Common.{◌≡◌}
use Rattle.packed_log.proofs.packed_log.PackedLog.to_vec.Given as goal

abbrev pub invariant-loop-entry : goal.invariant-loop-entry
invariant-loop-entry l = l.entries.items ≡ l.yielded
