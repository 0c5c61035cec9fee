use Rattle.std.proofs.Common.{List, inl, inr, subst}
use Rattle.machine.specs.declared.event.Entry.{Entry}
use Rattle.runner.specs.LogSchedules.{IsFollowedLog}
use Rattle.answers.specs.Causes.{FailsLog}
use Rattle.answers.proofs.Refusing.{failure_left, left_by, long_lines, not_read, not_taken}
use Rattle.answers.proofs.following.followed_by_lines.Goals as goal

pub returns-in_err-check_bytes-clause-left : goal.returns-in_err-check_bytes-clause-left
returns-in_err-check_bytes-clause-left c =
    let fault = c.in_err-check_bytes.field-0.0 in
    left_by _ _ _ c.from_residual.ensures
    (λ n gives. failure_left (λ e. ⊥) (λ e. ⊥) (FailsLog c.args.image.now c.args.steps c.args.lines.now) n fault gives
    (inr (inl (long_lines c.args.steps c.args.lines.now fault c.in_err-check_bytes.ensures))))

pub returns-in_err-entries-clause-left : goal.returns-in_err-entries-clause-left
returns-in_err-entries-clause-left c =
    left_by _ _ _ c.from_residual-in_err-entries.ensures
    (λ n gives. not_read (FailsLog c.args.image.now c.args.steps c.args.lines.now) c.args.lines.now c.args.steps
    c.in_err-entries.field-0.0 n (λ f h. inl h) c.in_err-entries.ensures gives)

pub returns-in_err-report-clause-left : goal.returns-in_err-report-clause-left
returns-in_err-report-clause-left c =
    left_by _ _ _ c.from_residual-in_err-report.ensures
    (λ n gives. not_taken c.args.image.now c.args.lines.now c.args.steps c.in_ok-entries.entries.items c.iter.result
    c.in_err-report.field-0.0 n c.in_ok-entries.ensures.0 c.iter.ensures c.in_err-report.ensures gives)

pub returns-clause-report : goal.returns-clause-report
returns-clause-report c = record {
  entries = c.in_ok-entries.entries.items;
  reads = c.in_ok-entries.ensures.0;
  few = c.in_ok-entries.ensures.1;
  followed = subst (λ (es : List Entry). IsFollowedLog c.args.image.now es c.in_ok-report.report) c.iter.ensures
      c.in_ok-report.ensures;
}
