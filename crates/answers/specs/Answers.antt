-- What a command tells and which files it writes, and what its devices have of that.
use Rattle.std.proofs.Common.{Bor}
use Rattle.std.specs.Prelude.{◌≡◌, ◌≤◌, ◌⊎◌, ◌++◌, ℕ, Bool, true, false, List, [], Option, Some, None, IfSome, codes}
use Rattle.account_text.specs.Accounts.{account, output_lines}
use Rattle.devices.specs.Counting.{failures_of}
use Rattle.devices.specs.declared.counted.Counted.{Counted}
use Rattle.line_tails.specs.Beside.{with_tails}
use Rattle.log_text.specs.LogLines.{log_lines}
use Rattle.machine.specs.declared.event.Entry.{Entry}
use Rattle.commandline.specs.declared.options.ChartOptions.{ChartOptions}
use Rattle.runner.specs.declared.report.Report.{Report}
use Rattle.runner.specs.declared.report.Verdict.{Verdict}
use Rattle.runner.specs.declared.report.Verdict.TheVariants as verdict
use Rattle.answers.specs.declared.answer.Answer.{Answer}
use Rattle.answers.specs.declared.answer.OutFile.{OutFile}
use Rattle.answers.specs.declared.answer.OutFiles.{OutFiles}
use Rattle.answers.specs.declared.status.Status.{Status}
use Rattle.answers.specs.declared.status.Status.TheVariants.{Done, Stuck, Limit, Memory, Failed}

-- a file's name, and the bytes that it gets
abbrev pub Put : Type 0
Put = Bor (List ℕ) × List ℕ

-- which file is written, if one is
abbrev pub put_of : Option OutFile → Option Put
put_of None = None
put_of (Some file) = Some (file.name, file.bytes.items)

-- the name of that file
abbrev pub name_of : Option OutFile → Option (Bor (List ℕ))
name_of None = None
name_of (Some file) = Some file.name

-- this file is written, or none, and no other one
abbrev pub ArePuts : Option Put → OutFiles → Type 0
ArePuts put files =
    (put_of files.out ≡ put) × (name_of files.timeline ≡ None) × (name_of files.page ≡ None)
    × (name_of files.schedule ≡ None) × (name_of files.actions ≡ None)

-- this file is written, or none, and a page to the file of this name, where there is one
abbrev pub ArePutBeside : Option Put → (page : Option (Bor (List ℕ))) → OutFiles → Type 0
ArePutBeside put page files =
    (put_of files.out ≡ put) × (name_of files.timeline ≡ None) × (name_of files.page ≡ page)
    × (name_of files.schedule ≡ None) × (name_of files.actions ≡ None)

-- the file of a picture
abbrev pub out_of : Option ChartOptions → Option (Bor (List ℕ))
out_of None = None
out_of (Some chart) = Some chart.out

-- a picture, a timeline and a page are written to the files of these names, as far as there are any
abbrev pub AreDrawn : Option ChartOptions → (timeline page : Option (Bor (List ℕ))) → OutFiles → Type 0
AreDrawn chart timeline page files =
    (name_of files.out ≡ out_of chart) × (name_of files.timeline ≡ timeline) × (name_of files.page ≡ page)
    × (name_of files.schedule ≡ None) × (name_of files.actions ≡ None)

-- the command is done, tells these bytes alone, and writes this file, or none
pub record TellsAlone (lines : List ℕ) (put : Option Put) (a : Answer) : Type 0 where
  pub ended : a.status ≡ Done
  pub output : a.output.items ≡ lines
  pub account : a.account.items ≡ []
  pub files : ArePuts put a.files

-- lines are told as they are; where more is asked for, with something before the first of them and before each one's
-- line feed
abbrev pub AreTold : Bool → List ℕ → List ℕ → Type 0
AreTold false lines told = told ≡ lines
AreTold true lines told = (head : List ℕ) × (tails : List (List ℕ)) × (told ≡ head ++ with_tails lines tails)

-- the exit status of a run, by its verdict
abbrev pub status_of_verdict : Verdict → Status
status_of_verdict verdict.Done = Done
status_of_verdict verdict.Stuck = Stuck
status_of_verdict verdict.Limit = Limit

-- the file of a log, where one is named
abbrev pub log_put : Option (Bor (List ℕ)) → List Entry → Option Put
log_put None log = None
log_put (Some name) log = Some (name, log_lines log)

-- a run with this report is told: its output, and its account with its log or without; its log is written to the file of
-- this name, where one is named, and a page to that one
pub record TellsReport (report : Report) (trace : Bool) (log page : Option (Bor (List ℕ))) (a : Answer) : Type 0 where
  pub ended : a.status ≡ status_of_verdict report.verdict
  pub output : a.output.items ≡ output_lines report.output.items
  pub account : a.account.items ≡ account report trace
  pub files : ArePutBeside (log_put log report.log.items) page a.files

-- each file that is to be written has got its bytes
abbrev pub ArePut : (Got : List ℕ → Type 0) → OutFiles → Type 0
ArePut Got files =
    IfSome (put_of files.out) (λ p. Got p.1) × IfSome (put_of files.timeline) (λ p. Got p.1)
    × IfSome (put_of files.page) (λ p. Got p.1) × IfSome (put_of files.schedule) (λ p. Got p.1)
    × IfSome (put_of files.actions) (λ p. Got p.1)

-- a call of the device has failed
abbrev pub HasMetFailure : {X : Type 0} → Counted X → Type 0
HasMetFailure device = 1 ≤ failures_of device

-- the command ended so and this was told, or a device failed
abbrev pub IsTold : (Told Fails : Type 0) → (wanted status : Status) → Type 0
IsTold Told Fails wanted status = ((status ≡ wanted) × Told) ⊎ ((status ≡ Failed) × Fails)

-- the same, or there was no memory for it, and that was told
abbrev pub IsToldOrMemory : (Wrote : List ℕ → Type 0) (Told Fails : Type 0) → (wanted status : Status) → Type 0
IsToldOrMemory Wrote Told Fails wanted status =
    IsTold Told Fails wanted status ⊎ IsTold (Wrote (codes "memory\n")) Fails Memory status
