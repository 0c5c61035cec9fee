use Rattle.std.proofs.Common.{List, inr, subst}
use Rattle.std.specs.Prelude.{Some, length}
use Rattle.machine.specs.declared.event.Entry.{Entry}
use Rattle.schedules.specs.OfLog.{log_turns}
use Rattle.answers.specs.Answers.{TellsAlone}
use Rattle.answers.specs.Causes.{FailsLines}
use Rattle.answers.specs.ScheduleText.{schedule_text}
use Rattle.answers.specs.Scheduling.{steps_line}
use Rattle.answers.proofs.Refusing.{failure_left, left_by, long_lines, not_read}
use Rattle.answers.proofs.Told.{no_memory, ok_so}
use Rattle.answers.proofs.scheduling.answer_schedule.Goals as goal

pub returns-in_err-check_bytes-clause-left : goal.returns-in_err-check_bytes-clause-left
returns-in_err-check_bytes-clause-left c =
    left_by _ _ _ c.from_residual.ensures
    (λ n gives. failure_left (λ e. ⊥) (λ e. ⊥) (FailsLines c.args.steps c.args.lines.now) n c.in_err-check_bytes.field-0.0 gives
    (inr (long_lines c.args.steps c.args.lines.now c.in_err-check_bytes.field-0.0 c.in_err-check_bytes.ensures)))

pub returns-in_err-entries-clause-left : goal.returns-in_err-entries-clause-left
returns-in_err-entries-clause-left c =
    left_by _ _ _ c.from_residual-in_err-entries.ensures
    (λ n gives. not_read (FailsLines c.args.steps c.args.lines.now) c.args.lines.now c.args.steps
    c.in_err-entries.field-0.0 n (λ f h. h) c.in_err-entries.ensures gives)

pub returns-clause-done : goal.returns-clause-done
returns-clause-done c =
    ok_so c.schedule_answer.result _ _
    (λ a tells. record {
      entries = c.in_ok-entries.entries.items;
      reads = c.in_ok-entries.ensures.0;
      few = c.in_ok-entries.ensures.1;
      tells = subst
          (λ (es : List Entry). TellsAlone (steps_line (length (log_turns es))) (Some (c.args.out, schedule_text (log_turns es))) a)
          c.iter.ensures tells;
    }) c.schedule_answer.ensures.told

pub returns-clause-left : goal.returns-clause-left
returns-clause-left c = no_memory c.schedule_answer.result _ _ _ c.schedule_answer.ensures.failed
