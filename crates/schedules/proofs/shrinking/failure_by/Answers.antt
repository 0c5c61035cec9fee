use Rattle.std.proofs.Common.{refl}
use Rattle.schedules.proofs.shrinking.failure_by.Goals as goal

pub returns-in-Some : goal.returns-in-Some
returns-in-Some c = record {
  report = c.in-Ok.report;
  followed = c.in-Ok.ensures.ok;
  fails = c.in-Some.ensures.some;
}

pub returns-in-Ok : goal.returns-in-Ok
returns-in-Ok c = record {
  report = c.in-Ok.report;
  followed = c.in-Ok.ensures.ok;
  never = c.in-None.ensures.none refl;
}
