-- A schedule that is looked for along the actions of a run.
use Rattle.isa.specs.Programs.{Program}
use Rattle.schedules.specs.Failing.{FailsOn}
use Rattle.schedules.specs.declared.failing.RunFailure.{RunFailure}
use Rattle.guided_schedules.specs.declared.following.GuidedSchedule.{GuidedSchedule}
use Rattle.guided_schedules.specs.declared.following.GuidedSchedule.TheVariants.{Found, OtherChoice, Unknown}

-- the program follows the schedule that was found to its end, and that run fails so
abbrev pub IsGuided : Program → RunFailure → GuidedSchedule → Type 0
IsGuided p failure (Found turns) = FailsOn p turns.items failure
IsGuided p failure OtherChoice = Unit {0}
IsGuided p failure Unknown = Unit {0}
