use Rattle.std.proofs.Common.{◌≡◌, ◌≤◌, length, take}
use Rattle.runner.specs.Logs.{cost}
use Rattle.answers.proofs.log_limits.has_few_steps.Given as goal

abbrev pub invariant-loop-entry : goal.invariant-loop-entry
invariant-loop-entry l = record {
  steps : l.steps ≡ cost (take (length l.yielded) l.fn.entries);
  few : l.steps ≤ l.fn.most;
}
