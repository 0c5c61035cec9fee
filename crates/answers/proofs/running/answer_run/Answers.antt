use Rattle.commandline.specs.CommandLine.{version_by}
use Rattle.answers.specs.Asked.{outside_by}
use Rattle.answers.proofs.Refusing.{left_by, run_left}
use Rattle.answers.proofs.Told.{memory_alone, ok_so}
use Rattle.answers.proofs.running.answer_run.Goals as goal

pub returns-in_err-report-clause-refused : goal.returns-in_err-report-clause-refused
returns-in_err-report-clause-refused g c =
    left_by _ _ _ c.from_residual.ensures
    (λ n gives. run_left (version_by c.args.text.now.exits) c.args.text.now.bytes.now
    (outside_by c.args.options.order) c.args.options.steps c.in_err-report.field-0.0 n c.in_err-report.ensures.fault
    c.in_err-report.ensures.sound gives)

pub returns-clause-done : goal.returns-clause-done
returns-clause-done g c =
    ok_so c.report_answer.result _ _
    (λ a tells. record { report = c.in_ok-report.report; run = c.in_ok-report.ensures.report; tells = tells })
    c.report_answer.ensures.told

pub returns-clause-refused : goal.returns-clause-refused
returns-clause-refused g c = memory_alone _ _ c.report_answer.ensures.failed
