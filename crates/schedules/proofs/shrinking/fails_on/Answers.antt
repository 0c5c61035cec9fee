use Rattle.schedules.proofs.shrinking.fails_on.Goals as goal

pub returns-in-Ok : goal.returns-in-Ok
returns-in-Ok c = λ is. record {
  report = c.in-Ok.report;
  followed = c.in-Ok.ensures.ok;
  fails = c.fails_by.ensures.fails is;
}
