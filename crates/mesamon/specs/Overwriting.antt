-- Whether a job would write a file that it reads, or one file twice, by the names that it has for them.
use Rattle.std.proofs.Common.{Bor}
use Rattle.std.specs.Prelude.{ℕ, Bool, false, List, Option, Some, None, ◌||◌, bytes_eq}
use Rattle.commandline.specs.declared.job.Job.{Job}
use Rattle.commandline.specs.declared.job.Job.TheVariants.{Check, Compile, List as ListImage, Run, Exec, Replay, Explain, Emit, Explore}
use Rattle.commandline.specs.declared.job.Job.TheVariants.{Assemble, Fmt, Follow, Search, Shrink, Schedule as ScheduleLog, Retell}
use Rattle.answers.specs.Answers.{out_of}
use Rattle.commandline.specs.declared.options.ExplainedBy.{ExplainedBy}
use Rattle.commandline.specs.declared.options.ExplainedBy.TheVariants.{Order, Seed, Schedule, Log}
use Rattle.commandline.specs.declared.options.ReplayedBy.{ReplayedBy}
use Rattle.commandline.specs.declared.options.ReplayedBy.TheVariants.{Schedule as BySchedule, Log as ByLog}

-- whether two names are one
abbrev pub is_same : Option (Bor (List ℕ)) → Option (Bor (List ℕ)) → Bool
is_same None b = false
is_same (Some a) None = false
is_same (Some a) (Some b) = bytes_eq a.now b.now

-- whether a file that is written is read too, or is written twice
abbrev pub is_twice : (read also_read written also_written : Option (Bor (List ℕ))) → Bool
is_twice read also_read written also_written =
    is_same written also_written || is_same written read || is_same written also_read || is_same also_written read
    || is_same also_written also_read

-- the same of three files that are written
abbrev pub draws_over : (read also_read chart timeline page : Option (Bor (List ℕ))) → Bool
draws_over read also_read chart timeline page =
    is_twice read also_read chart timeline || is_twice read also_read chart page || is_same timeline page

-- whether a file is one of these four
abbrev pub is_one_of : (name first second third fourth : Option (Bor (List ℕ))) → Bool
is_one_of name first second third fourth =
    is_same name first || is_same name second || is_same name third || is_same name fourth

-- the same of what shows a run of the text in a file: its picture, its timeline, its page, a schedule and its actions
abbrev pub finds_over : (file : Bor (List ℕ)) (chart timeline page schedule actions : Option (Bor (List ℕ))) → Bool
finds_over file chart timeline page schedule actions =
    draws_over (Some file) None chart timeline page || is_one_of schedule (Some file) chart timeline page
    || is_one_of actions (Some file) chart timeline page || is_same actions schedule

-- the file that says which run is explained
abbrev pub read_by : ExplainedBy → Option (Bor (List ℕ))
read_by (Order steps) = None
read_by (Seed steps seed strays kills) = None
read_by (Schedule name) = Some name
read_by (Log name steps) = Some name

abbrev pub replay_overwrites : Bor (List ℕ) → ReplayedBy → Option (Bor (List ℕ)) → Bool
replay_overwrites file (BySchedule schedule log) page = is_twice (Some file) (Some schedule) log page
replay_overwrites file (ByLog log steps) page = is_twice (Some file) (Some log) page None

abbrev pub overwrites : Job → Bool
overwrites (Check file hints) = false
overwrites (ListImage image linux source hints) = false
overwrites (Compile file out workers version hints) = is_twice (Some file) None (Some out) None
overwrites (Emit file out hints) = is_twice (Some file) None (Some out) None
overwrites (Run file exits options page hints) = is_twice (Some file) None options.log page
overwrites (Search file form exits states strays kills files hints) =
    draws_over (Some file) None files.chart files.timeline files.schedule
overwrites (Follow file form exits by trace hints) = replay_overwrites file by None
overwrites (Assemble file out hints) = is_twice (Some file) None (Some out) None
overwrites (Fmt file check hints) = false
overwrites (ScheduleLog log out steps hints) = is_twice (Some log) None (Some out) None
overwrites (Shrink file exits schedule out hints) = is_twice (Some file) (Some schedule) (Some out) None
overwrites (Exec image form exits options) = is_twice (Some image) None options.log None
overwrites (Replay file exits by trace page hints) = replay_overwrites file by page
overwrites (Explain file exits by chart timeline page places hints) = draws_over (Some file) (read_by by) (out_of chart) timeline page
overwrites (Retell file exits actions chart timeline page places hints) =
    draws_over (Some file) (Some actions) (out_of chart) timeline page
overwrites (Explore file exits states strays kills ends chart timeline page schedule actions places hints) =
    finds_over file (out_of chart) timeline page schedule actions
