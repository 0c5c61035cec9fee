use Rattle.std.proofs.Common.{◌≡◌, false}
use Rattle.runner.specs.Rounds.{AllPast, AllStopped, NobodyPassed, left}
use Rattle.runner.specs.Seeds.{HasDrawn, moment_of, numbers_from}
use Rattle.runner.specs.Views.{log_state}
use Rattle.runner.proofs.drawing.make_next.Given as goal

abbrev pub invariant-loop-drawn : goal.invariant-loop-drawn
invariant-loop-drawn g l = record {
  same : log_state l.shared ≡ log_state l.fn.shared;
  past : AllPast g.J.RunName.program g.J.RunName.limit (log_state l.shared) l.refused;
  stopped : AllStopped g.J.RunName.program g.J.RunName.limit (log_state l.shared) l.passed;
  nobody : l.skipped ≡ false → NobodyPassed l.passed;
  drawn : HasDrawn g.J.RunName.program l.outside g.J.RunName.limit
      (moment_of (log_state l.fn.shared) (numbers_from l.fn.generator) l.fn.refused l.fn.passed)
      (moment_of (log_state l.shared) (numbers_from l.generator) l.refused l.passed);
}

abbrev pub decreases-loop-drawn : goal.decreases-loop-drawn
decreases-loop-drawn g l = left l.passed
