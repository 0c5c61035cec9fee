-- A schedule that is made shorter.
use Rattle.std.specs.Prelude.{◌≡◌, ◌≤◌, List, length, true}
use Rattle.isa.specs.Programs.{Program}
use Rattle.runner.specs.Schedules.{FailsAt, IsFollowed}
use Rattle.runner.specs.declared.report.Report.{Report}
use Rattle.runner.specs.declared.schedule.Turn.{Turn}
use Rattle.schedules.specs.Failing.{FailsBy, FailsOn}
use Rattle.schedules.specs.Minimal.{IsMinimal}
use Rattle.schedules.specs.Switches.{switches}
use Rattle.schedules.specs.declared.failing.RunFailure.{RunFailure}
use Rattle.schedules.specs.declared.shrinking.ShrinkFault.{ShrinkFault}
use Rattle.schedules.specs.declared.shrinking.ShrinkFault.TheVariants.{Schedule, NoFailure, Memory}
use Rattle.schedules.specs.declared.shrinking.ShrunkSchedule.{ShrunkSchedule}

-- a schedule has no more turns and no more context switches than another
pub record IsNoLonger (given turns : List Turn) : Type 0 where
  pub entries : length turns ≤ length given
  pub few : switches turns ≤ switches given

-- the program follows both schedules to their ends, both runs fail by the same, and the answered one is no longer; where it
-- is said to be minimal no turn of it can be left out
pub record IsShrunk (p : Program) (given : List Turn) (s : ShrunkSchedule) : Type 0 where
  pub fails : FailsOn p given s.failure
  pub alike : FailsOn p s.turns.items s.failure
  pub no_longer : IsNoLonger given s.turns.items
  pub minimal : s.minimal ≡ true → IsMinimal p s.turns.items s.failure

-- the program follows the schedule to its end, and that run doesn't fail
pub record HasNoFailure (p : Program) (schedule : List Turn) : Type 0 where
  pub report : Report
  pub followed : IsFollowed p schedule report
  pub never : (failure : RunFailure) → FailsBy report failure → ⊥

-- why a schedule isn't made shorter: it isn't followed to its end, or its run doesn't fail, or there is no memory
abbrev pub CannotShrink : Program → List Turn → ShrinkFault → Type 0
CannotShrink p given (Schedule fault) = FailsAt p given fault
CannotShrink p given NoFailure = HasNoFailure p given
CannotShrink p given Memory = Unit {0}
