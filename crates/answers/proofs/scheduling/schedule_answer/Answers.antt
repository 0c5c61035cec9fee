use Rattle.std.proofs.Common.{◌∙◌, List, ℕ, Some, Vec, ap, length}
use Rattle.std.specs.Global.{Global}
use Rattle.runner.specs.declared.schedule.Turn.{Turn}
use Rattle.answers.specs.ScheduleText.{schedule_text}
use Rattle.answers.specs.Scheduling.{steps_line}
use Rattle.answers.proofs.Told.{are_puts}
use Rattle.answers.proofs.scheduling.schedule_answer.Goals as goal

pub returns-clause-told : goal.returns-clause-told
returns-clause-told c =
    let turns = c.as_slice-steps.ensures.value ∙ c.in_ok-turns.ensures.turns in
    record {
      ended = c.quiet.ensures.status;
      output = c.quiet.ensures.output ∙ ap (λ (v : Vec ℕ Global). v.items) c.into_bytes.ensures.value ∙ c.in_ok-line.ensures
          ∙ ap (λ (ts : List Turn). steps_line (length ts)) turns;
      account = c.quiet.ensures.account;
      files = are_puts _ _ _ _ c.quiet.ensures.files c.only.ensures.out c.only.ensures.timeline c.only.ensures.page
          c.only.ensures.schedule c.only.ensures.actions
          (c.in_ok-file.ensures ∙ ap (λ (ts : List Turn). Some (c.args.out, schedule_text ts)) turns);
    }
