use Rattle.std.proofs.Common.{◌∙◌, ◌++◌, ℕ, List, Some, Vec, ap}
use Rattle.std.specs.Global.{Global}
use Rattle.runner.specs.declared.schedule.Turn.{Turn}
use Rattle.answers.specs.ScheduleText.{schedule_text}
use Rattle.answers.specs.Shrinking.{failure_line, minimal_line, sizes_line}
use Rattle.answers.proofs.Told.{are_puts}
use Rattle.answers.proofs.shrinking.shrunk_answer.Goals as goal

pub returns-clause-told : goal.returns-clause-told
returns-clause-told c =
    let turns = c.as_slice-turns.ensures.value in
    record {
      ended = c.quiet.ensures.status;
      output = c.quiet.ensures.output ∙ ap (λ (v : Vec ℕ Global). v.items) c.into_bytes.ensures.value ∙ c.in_ok-lines.ensures
          ∙ ap (λ (ts : List Turn). (failure_line c.args.shrunk.now.failure ++ sizes_line c.args.given.now ts)
          ++ minimal_line c.args.shrunk.now.minimal) turns;
      account = c.quiet.ensures.account;
      files = are_puts _ _ _ _ c.quiet.ensures.files c.only.ensures.out c.only.ensures.timeline c.only.ensures.page
          c.only.ensures.schedule c.only.ensures.actions
          (c.in_ok-file.ensures ∙ ap (λ (ts : List Turn). Some (c.args.out, schedule_text ts)) turns);
    }
