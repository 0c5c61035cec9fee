-- The schedule of a log that comes from outside.
use Rattle.std.proofs.Common.{Bor}
use Rattle.std.specs.Prelude.{ℕ, ◌≤◌, ◌++◌, List, Some, codes, length}
use Rattle.std.specs.Fmt.{decimal}
use Rattle.log_text.specs.Spelled.{IsLogText}
use Rattle.machine.specs.declared.event.Entry.{Entry}
use Rattle.runner.specs.Logs.{cost}
use Rattle.schedules.specs.OfLog.{log_turns}
use Rattle.answers.specs.Answers.{TellsAlone}
use Rattle.answers.specs.ScheduleText.{schedule_text}
use Rattle.answers.specs.declared.answer.Answer.{Answer}

-- the line that tells of so many steps
abbrev pub steps_line : ℕ → List ℕ
steps_line count = codes "ok " ++ (decimal count ++ codes " steps\n")

-- the lines are those of a log of at most so many steps, whose schedule is written to the file of this name; and how many
-- steps it has was told
pub record HasScheduled (most : ℕ) (out : Bor (List ℕ)) (lines : List ℕ) (a : Answer) : Type 0 where
  pub entries : List Entry
  pub reads : IsLogText lines entries
  pub few : cost entries ≤ most
  pub tells : TellsAlone (steps_line (length (log_turns entries))) (Some (out, schedule_text (log_turns entries))) a
