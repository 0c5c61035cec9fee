use Rattle.std.proofs.lemmas.Result.{IfOk-weaker}
use Rattle.image_search.proofs.sleeping.sleepers_by.Goals as goal

pub returns-in-Ok-clause-sleep : goal.returns-in-Ok-clause-sleep
returns-in-Ok-clause-sleep c = IfOk-weaker c.sleepers_of.result _ _ (λ threads sleep less. record {
  report = c.in-Ok.report;
  followed = c.in-Ok.ensures.ok;
  from = c.are_from.ensures c.if-not-are_from.false;
  is = sleep c.in-Ok.ensures.ok.program;
}) c.sleepers_of.ensures.sleep
