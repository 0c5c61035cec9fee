use Rattle.std.proofs.Common.{◌∙◌, List, subst}
use Rattle.runner.specs.Schedules.{IsFollowed}
use Rattle.runner.specs.declared.schedule.Turn.{Turn}
use Rattle.answers.specs.Causes.{FailsTurns}
use Rattle.answers.proofs.Refusing.{failure_left, left_by, not_followed_by, turns_unread}
use Rattle.answers.proofs.following.followed.Goals as goal

pub returns-in_err-turns-clause-left : goal.returns-in_err-turns-clause-left
returns-in_err-turns-clause-left c =
    let fault = c.in_err-turns.field-0.0 in
    left_by _ _ _ c.from_residual.ensures
    (λ n gives. failure_left (λ e. ⊥) (λ e. ⊥) (FailsTurns c.args.image.now c.args.schedule.now) n fault gives
    (turns_unread c.args.image.now c.args.schedule.now fault c.in_err-turns.ensures.failed))

pub returns-in_err-report-clause-left : goal.returns-in_err-report-clause-left
returns-in_err-report-clause-left c =
    left_by _ _ _ c.from_residual-in_err-report.ensures
    (λ n gives. not_followed_by c.args.image.now c.args.schedule.now c.as_slice.result.now c.in_err-report.field-0.0 n
    (c.as_slice.ensures.value ∙ c.in_ok-turns.ensures.turns) c.in_err-report.ensures.err gives)

pub returns-clause-report : goal.returns-clause-report
returns-clause-report c =
    subst (λ (turns : List Turn). IsFollowed c.args.image.now turns c.in_ok-report.report)
    (c.as_slice.ensures.value ∙ c.in_ok-turns.ensures.turns) c.in_ok-report.ensures.ok
