use Rattle.std.proofs.Common.{◌∙◌, ap}
use Rattle.std.proofs.lemmas.Result.{IfOk-weaker}
use Rattle.runner.specs.Views.{SharedView}
use Rattle.runner.proofs.Ordering.{in_order}
use Rattle.runner.proofs.running.run_as.Goals as goal

-- a run begins with no entry
pub returns-clause-order : goal.returns-clause-order
returns-clause-order g c =
    IfOk-weaker c.finish.result _ _ (λ r h. in_order g.J.RunName.program g.J.RunName.limit _ r.log.items
    (ap (λ (v : SharedView). v.log) c.in-Some.ensures.some.1 ∙ c.in-Ok.ensures.0) h) c.finish.ensures.order
