use Rattle.image_search.proofs.crowds.is_crowded_run.Goals as goal

pub returns-in-Ok : goal.returns-in-Ok
returns-in-Ok c = λ e. record {
  report = c.in-Ok.report;
  followed = c.in-Ok.ensures.ok;
  from = c.are_from.ensures c.if-not-are_from.false;
  is = c.has_crowd.ensures e;
}
