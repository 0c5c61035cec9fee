use Rattle.std.proofs.Common.{List, ℕ, Option, Bor, None, subst}
use Rattle.answers.specs.Answers.{TellsReport}
use Rattle.answers.proofs.Refusing.{left_as}
use Rattle.answers.proofs.Told.{no_memory, ok_so}
use Rattle.answers.proofs.following.follow_image.Goals as goal

pub returns-clause-done : goal.returns-clause-done
returns-clause-done c =
    ok_so c.of_report.result _ _
    (λ a tells. record {
      report = c.in_ok-report.report;
      followed = c.in_ok-report.ensures.report;
      tells = subst (λ (log : Option (Bor (List ℕ))). TellsReport c.in_ok-report.report c.args.trace log None a)
          c.log_beside-log.ensures tells;
    }) c.of_report.ensures.told

pub returns-in_err-report-clause-left : goal.returns-in_err-report-clause-left
returns-in_err-report-clause-left c = left_as _ _ _ c.from_residual.ensures c.in_err-report.ensures.left

pub returns-clause-left : goal.returns-clause-left
returns-clause-left c = no_memory c.of_report.result _ _ _ c.of_report.ensures.failed
