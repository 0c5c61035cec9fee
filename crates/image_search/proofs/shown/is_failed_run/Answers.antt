use Rattle.image_search.proofs.shown.is_failed_run.Goals as goal

pub returns-in-Ok : goal.returns-in-Ok
returns-in-Ok c = λ e. record {
  report = c.in-Ok.report;
  followed = c.in-Ok.ensures.ok;
  from = c.are_from.ensures c.if-not-are_from.false;
  is = c.has_failed.ensures e;
}
