use Rattle.std.proofs.Common.{◌≡◌}
use Rattle.schedules.specs.OfLog.{log_turns}
use Rattle.schedules.proofs.of_log.turns_of.Given as goal

abbrev pub invariant-loop-entry : goal.invariant-loop-entry
invariant-loop-entry l = l.turns.items ≡ log_turns l.yielded
