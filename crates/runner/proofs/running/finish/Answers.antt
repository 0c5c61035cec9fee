use Rattle.std.proofs.Common.{List, subst, sym}
use Rattle.std.proofs.lemmas.Result.{IfOk-weaker}
use Rattle.machine.specs.declared.event.Entry.{Entry}
use Rattle.runner.specs.Orders.{GoesOn}
use Rattle.runner.proofs.Turning.{on_ok}
use Rattle.runner.proofs.running.finish.Goals as goal

pub returns-clause-order : goal.returns-clause-order
returns-clause-order g c =
    IfOk-weaker c.report_run.result _ _ (λ r h.
    subst (λ (l : List Entry). GoesOn g.J.RunName.program g.J.RunName.limit c.args.shared.log l) (sym h.1)
    (on_ok c.run_rounds-done.result _ h.0 c.run_rounds-done.ensures.order)) c.report_run.ensures.log
