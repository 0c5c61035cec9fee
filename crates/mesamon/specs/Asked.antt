-- What a job asks for: which files are read, and whether hints.
use Rattle.std.proofs.Common.{Bor}
use Rattle.std.specs.Prelude.{ℕ, ◌+◌, ◌^◌, ◌≤◌, Bool, false, List, Option, Some, None, IfSome}
use Rattle.scanner.specs.Limits.{most_bytes}
use Rattle.commandline.specs.declared.options.ExplainedBy.{ExplainedBy}
use Rattle.commandline.specs.declared.options.ExplainedBy.TheVariants.{Order, Seed, Schedule, Log}
use Rattle.commandline.specs.declared.job.Job.{Job}
use Rattle.commandline.specs.declared.job.Job.TheVariants.{Check, Compile, List as ListImage, Run, Exec, Replay, Explain, Emit, Explore}
use Rattle.commandline.specs.declared.job.Job.TheVariants.{Assemble, Fmt, Follow, Search, Shrink, Schedule as ScheduleLog, Retell}
use Rattle.commandline.specs.declared.options.Exits.{Exits}
use Rattle.commandline.specs.declared.options.Exits.TheVariants as rule
use Rattle.commandline.specs.declared.options.ImageForm.{ImageForm}
use Rattle.commandline.specs.declared.options.ImageForm.TheVariants as form
use Rattle.commandline.specs.declared.options.ReplayedBy.{ReplayedBy}
use Rattle.commandline.specs.declared.options.ReplayedBy.TheVariants.{Schedule as BySchedule, Log as ByLog}
use Rattle.mesamon.specs.declared.jobs.First.{First}
use Rattle.mesamon.specs.declared.jobs.First.TheVariants as own
use Rattle.mesamon.specs.declared.jobs.Second.{Second}
use Rattle.mesamon.specs.declared.jobs.Second.TheVariants as also
use Rattle.answers.specs.LogLimits.{log_bytes}

-- whether a job asks for hints
abbrev pub asks_for_hints : Job → Bool
asks_for_hints (Check file hints) = hints
asks_for_hints (Compile file out workers version hints) = hints
asks_for_hints (ListImage image linux source hints) = hints
asks_for_hints (Run file exits options page hints) = hints
asks_for_hints (Exec image form exits options) = false
asks_for_hints (Replay file exits by trace page hints) = hints
asks_for_hints (Explain file exits by chart timeline page places hints) = hints
asks_for_hints (Retell file exits actions chart timeline page places hints) = hints
asks_for_hints (Emit file out hints) = hints
asks_for_hints (Explore file exits states strays kills ends chart timeline page schedule actions places hints) = hints
asks_for_hints (Search file form exits states strays kills files hints) = hints
asks_for_hints (Follow file form exits by trace hints) = hints
asks_for_hints (Assemble file out hints) = hints
asks_for_hints (Fmt file check hints) = hints
asks_for_hints (ScheduleLog log out steps hints) = hints
asks_for_hints (Shrink file exits schedule out hints) = hints

-- by whose rule the exits of the threads wake that a job runs: where it runs none, by this machine's
abbrev pub exits_of : Job → Exits
exits_of (Check file hints) = rule.Machine
exits_of (Compile file out workers version hints) = rule.Machine
exits_of (ListImage image linux source hints) = rule.Machine
exits_of (Run file exits options page hints) = exits
exits_of (Exec image form exits options) = exits
exits_of (Replay file exits by trace page hints) = exits
exits_of (Explain file exits by chart timeline page places hints) = exits
exits_of (Retell file exits actions chart timeline page places hints) = exits
exits_of (Emit file out hints) = rule.Machine
exits_of (Explore file exits states strays kills ends chart timeline page schedule actions places hints) = exits
exits_of (Search file form exits states strays kills files hints) = exits
exits_of (Follow file form exits by trace hints) = exits
exits_of (Assemble file out hints) = rule.Machine
exits_of (Fmt file check hints) = rule.Machine
exits_of (ScheduleLog log out steps hints) = rule.Machine
exits_of (Shrink file exits schedule out hints) = exits

-- how many bytes are read, at most, of a text, a schedule or an image
abbrev pub most_read : ℕ
most_read = most_bytes + 1

-- how many bytes are read, at most, of the second file of a job, where it has one: the source beside an image, a schedule,
-- a log, or the actions of a run, of which all are
abbrev pub read_of_source : Option (Bor (List ℕ)) → Option ℕ
read_of_source None = None
read_of_source (Some name) = Some most_read

abbrev pub read_of_replay : ReplayedBy → Option ℕ
read_of_replay (BySchedule name log) = Some most_read
read_of_replay (ByLog name steps) = Some (log_bytes steps + 1)

abbrev pub read_of_explained : ExplainedBy → Option ℕ
read_of_explained (Order steps) = None
read_of_explained (Seed steps seed strays kills) = None
read_of_explained (Schedule name) = Some most_read
read_of_explained (Log name steps) = Some (log_bytes steps + 1)

abbrev pub read_second : Job → Option ℕ
read_second (ListImage image linux source hints) = read_of_source source
read_second (Replay file exits by trace page hints) = read_of_replay by
read_second (Explain file exits by chart timeline page places hints) = read_of_explained by
read_second (Retell file exits actions chart timeline page places hints) = Some (2 ^ 62)
read_second (Check file hints) = None
read_second (Compile file out workers version hints) = None
read_second (Run file exits options page hints) = None
read_second (Exec image form exits options) = None
read_second (Emit file out hints) = None
read_second (Explore file exits states strays kills ends chart timeline page schedule actions places hints) = None
read_second (Search file form exits states strays kills files hints) = None
read_second (Follow file form exits by trace hints) = read_of_replay by
read_second (Assemble file out hints) = None
read_second (Fmt file check hints) = None
read_second (ScheduleLog log out steps hints) = None
read_second (Shrink file exits schedule out hints) = Some most_read

-- of this one
abbrev pub most_of : Second → Option ℕ
most_of also.None = None
most_of (also.Text name) = Some most_read
most_of (also.All name) = Some (2 ^ 62)
most_of (also.Log name steps) = Some (log_bytes steps + 1)

-- of an image, by its form: of an assembly text all
abbrev pub most_formed : ImageForm → ℕ
most_formed form.Assembly = 2 ^ 62
most_formed form.Image = most_read

-- of the file that a job is about, by what that is
abbrev pub most_first : First → ℕ
most_first own.Text = most_read
most_first own.All = 2 ^ 62
most_first (own.Log steps) = log_bytes steps + 1

-- how many bytes are read of the file that a job is about, at most: of an assembly text all
abbrev pub first_most : Job → ℕ
first_most (Check file hints) = most_read
first_most (Compile file out workers version hints) = most_read
first_most (ListImage image linux source hints) = most_read
first_most (Run file exits options page hints) = most_read
first_most (Exec image form exits options) = most_formed form
first_most (Replay file exits by trace page hints) = most_read
first_most (Explain file exits by chart timeline page places hints) = most_read
first_most (Retell file exits actions chart timeline page places hints) = most_read
first_most (Emit file out hints) = most_read
first_most (Explore file exits states strays kills ends chart timeline page schedule actions places hints) = most_read
first_most (Search file form exits states strays kills files hints) = most_formed form
first_most (Follow file form exits by trace hints) = most_formed form
first_most (Assemble file out hints) = 2 ^ 62
first_most (Fmt file check hints) = most_read
first_most (ScheduleLog log out steps hints) = log_bytes steps + 1
first_most (Shrink file exits schedule out hints) = most_read

-- these bytes were read of the two files of a job; where it has no second one, they are any
pub record AreRead (IsOf : (most : ℕ) → List ℕ → Type 0) (job : Job) (bytes second : List ℕ) : Type 0 where
  pub first : IsOf (first_most job) bytes
  pub other : IfSome (read_second job) (λ most. IsOf most second)

-- a number of compiling workers that may be
abbrev pub HasWorkers : Job → Type 0
HasWorkers (Compile file out workers version hints) = (1 ≤ workers) × (workers ≤ 64)
HasWorkers other = Unit {0}
