use Rattle.std.proofs.Common.{◌≡◌, ◌++◌, replicate}
use Rattle.runner.specs.declared.schedule.Turn.TheVariants.{Step}
use Rattle.schedules.proofs.of_log.push_steps.Given as goal

abbrev pub invariant-loop-step : goal.invariant-loop-step
invariant-loop-step l = l.turns.items ≡ l.initial.turns.items ++ replicate l._step (Step l.thread)
