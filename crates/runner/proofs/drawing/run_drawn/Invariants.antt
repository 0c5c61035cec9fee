use Rattle.std.proofs.Common.{◌-◌}
use Rattle.runner.specs.Logs.{cost}
use Rattle.runner.specs.Rounds.{AllPast, NobodyPassed}
use Rattle.runner.specs.Seeds.{HasDrawn, begun_at, moment_of, numbers_from}
use Rattle.runner.specs.Views.{log_state}
use Rattle.runner.proofs.drawing.run_drawn.Given as goal

abbrev pub invariant-loop : goal.invariant-loop
invariant-loop g l = record {
  past : AllPast g.J.RunName.program g.J.RunName.limit (log_state l.shared) l.refused;
  nobody : NobodyPassed l.passed;
  drawn : HasDrawn g.J.RunName.program l.outside g.J.RunName.limit
      (begun_at (log_state l.fn.shared) (numbers_from l.fn.generator))
      (moment_of (log_state l.shared) (numbers_from l.generator) l.refused l.passed);
}

abbrev pub decreases-loop : goal.decreases-loop
decreases-loop g l = g.J.RunName.limit - cost l.shared.log
