use Rattle.std.proofs.Common.{List, ℕ, Option, Bor, subst}
use Rattle.answers.specs.Answers.{TellsReport}
use Rattle.answers.proofs.Refusing.{left_as}
use Rattle.answers.proofs.Told.{no_memory, ok_so}
use Rattle.answers.proofs.running.answer_replay.Goals as goal

pub returns-in_err-report-clause-left : goal.returns-in_err-report-clause-left
returns-in_err-report-clause-left c =
    left_as _ _ _ c.from_residual.ensures c.in_err-report.ensures.left

pub returns-clause-done : goal.returns-clause-done
returns-clause-done c =
    ok_so c.report_answer.result _ _
    (λ a tells. record {
      report = c.in_ok-report.report;
      run = c.in_ok-report.ensures.report;
      tells = subst (λ (log : Option (Bor (List ℕ))). TellsReport c.in_ok-report.report c.args.trace log c.args.page a)
          c.log_beside-log.ensures tells;
    }) c.report_answer.ensures.told

pub returns-clause-left : goal.returns-clause-left
returns-clause-left c = no_memory _ _ _ _ c.report_answer.ensures.failed
