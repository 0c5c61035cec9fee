use Rattle.answers.specs.Causes.{CannotRun}
use Rattle.answers.proofs.Refusing.{run_fails}
use Rattle.answers.proofs.Told.{no_memory, ok_so}
use Rattle.answers.proofs.running.exec_image.Goals as goal

pub returns-in-Ok-clause-done : goal.returns-in-Ok-clause-done
returns-in-Ok-clause-done g c =
    ok_so c.of_report.result _ _ (λ a tells. record { report = c.in-Ok.report; run = c.in-Ok.ensures.ok; tells = tells })
    c.of_report.ensures.told

pub returns-in-Ok-clause-left : goal.returns-in-Ok-clause-left
returns-in-Ok-clause-left g c = no_memory c.of_report.result _ _ _ c.of_report.ensures.failed

pub returns-in-Err-clause-left : goal.returns-in-Err-clause-left
returns-in-Err-clause-left g c =
    run_fails c.args.options c.args.image.now c.in-Err.fault c.from.result c.in-Err.ensures.err c.from.ensures
