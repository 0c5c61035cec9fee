use Rattle.std.proofs.lemmas.Result.{IfOk-weaker}
use Rattle.schedules.proofs.Singles.{leads_alike}
use Rattle.schedules.proofs.of_log.schedule_of_log.Goals as goal

pub returns-clause-leads : goal.returns-clause-leads
returns-clause-leads c =
    IfOk-weaker c.turns_of.result _ _ (λ turns is p k runs. leads_alike p c.args.entries k turns.items is runs)
    c.turns_of.ensures
