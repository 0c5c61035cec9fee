use Rattle.std.proofs.Common.{List, ℕ, Option, Bor, subst}
use Rattle.answers.specs.Answers.{TellsReport}
use Rattle.answers.proofs.Told.{ok_so}
use Rattle.answers.proofs.paging.report_answer.Goals as goal

pub returns-clause-told : goal.returns-clause-told
returns-clause-told c =
    ok_so c.of_report.result _ _
    (λ a tells. subst
    (λ (page : Option (Bor (List ℕ))). TellsReport c.args.report.now c.args.kept.trace c.args.kept.log page a)
    c.in_ok-page.ensures tells) c.of_report.ensures.told
