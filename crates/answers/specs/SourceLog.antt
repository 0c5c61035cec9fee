-- What a log that comes from outside answers, as the text of its lines: explained, or run again.
use Rattle.std.specs.Prelude.{◌≡◌, ◌≤◌, ◌<◌, ◌^◌, ◌⊎◌, ℕ, List, length, map}
use Rattle.words.specs.Limits.{run_buckets}
use Rattle.words.specs.declared.version.ImageVersion.{ImageVersion}
use Rattle.isa.specs.Programs.{Program as Image}
use Rattle.machine.specs.declared.event.Entry.{Entry}
use Rattle.machine.specs.FrontRuns.{event_label, label_of}
use Rattle.machine.specs.PieceSteps.{PieceRun}
use Rattle.machine.specs.Runs.{Step}
use Rattle.machine.specs.Views.{concrete}
use Rattle.piece_machine.specs.PieceConcrete.{PieceConcrete, pieces_at}
use Rattle.piece_machine.specs.PieceViews.{parts}
use Rattle.scanner.specs.Refusals.{out_of_memory}
use Rattle.program.specs.Names.{said_by}
use Rattle.program.specs.Trees.{Program, as_version}
use Rattle.lowering.specs.Pieces.{code_of}
use Rattle.refinement.specs.Pieces.{ExplainedInPieces}
use Rattle.log_simulation.specs.Verdicts.{SaysOf}
use Rattle.source_states.specs.Actions.{action_of}
use Rattle.backend.specs.Refusals.{CodeFits}
use Rattle.runner.specs.LogSchedules.{IsBadLogEntry, IsFollowedLog}
use Rattle.runner.specs.LogRuns.{steps_of}
use Rattle.runner.specs.Logs.{cost}
use Rattle.runner.specs.Reports.{IsVerdict}
use Rattle.runner.specs.declared.report.Report.{Report}
use Rattle.log_text.specs.Spelled.{IsBadLine, IsLogText}
use Rattle.simulation.specs.ExplainedLog.{IsExplainedLog, IsLast, LeadsTo, StopsAt}
use Rattle.compiler.specs.Accepts.{AcceptsText, RefusesTextAs}
use Rattle.answers.specs.declared.explained_run.ExplainedRun.{ExplainedRun}
use Rattle.answers.specs.declared.source_log.SourceLogFault.{SourceLogFault}
use Rattle.answers.specs.declared.source_log.SourceLogFault.TheVariants.{Refused, Line, Entry as Entry', Steps, Memory}
use Rattle.answers.specs.LogLimits.{HasManySteps}
use Rattle.answers.specs.Versions.{code_as}

-- why lines aren't read
abbrev pub ReadsNone : List ℕ → SourceLogFault → Type 0
ReadsNone lines (Line number) = IsBadLine lines number
ReadsNone lines Memory = Unit {0}
ReadsNone lines fault = ⊥

-- or are those of a log of more than so many steps
abbrev pub ReadsNot : List ℕ → ℕ → SourceLogFault → Type 0
ReadsNot lines most (Steps n) = (n ≡ most) × HasManySteps lines most
ReadsNot lines most fault = ReadsNone lines fault

-- why entries aren't explained
abbrev pub StopsLog : Image → List Entry → SourceLogFault → Type 0
StopsLog image entries (Entry' number) = StopsAt image entries number
StopsLog image entries Memory = Unit {0}
StopsLog image entries fault = ⊥

-- why entries aren't followed
abbrev pub FollowsNot : Image → List Entry → SourceLogFault → Type 0
FollowsNot image entries (Entry' number) = IsBadLogEntry image entries number
FollowsNot image entries Memory = Unit {0}
FollowsNot image entries fault = ⊥

-- the report of a log: the machine stands where it leads, with the output and the verdict of that state
pub record IsReportOfLog (p : Program) (entries : List Entry) (r : Report) : Type 0 where
  pub log : r.log.items ≡ entries
  pub last : IsLast (code_of p) entries r.last
  pub output : r.output.items ≡ (concrete r.last.view).common.output
  pub verdict : IsVerdict (concrete r.last.view) r.verdict

-- the lines are those of a log of the code of the text's program for this version, and the actions are its explanation; the
-- verdict on where it leads is one on the source
pub record IsExplanationOfLog (version : ImageVersion) (text lines : List ℕ) (r : ExplainedRun) : Type 0 where
  pub accepts : AcceptsText text (said_by r.checked)
  pub entries : List Entry
  pub reads : IsLogText lines entries
  pub explained : IsExplainedLog (as_version version (said_by r.checked)) (code_as version (said_by r.checked)) entries
      (map action_of r.actions.items)
  pub report : IsReportOfLog (as_version version (said_by r.checked)) entries r.report
  pub says : SaysOf r.report.verdict (as_version version (said_by r.checked))
      explained.recorded.explained.explained.source

-- the text is a program's, and the lines are those of entries
pub record ReadsLog (text lines : List ℕ) : Type 0 where
  pub program : Program
  pub accepts : AcceptsText text program
  pub entries : List Entry
  pub reads : IsLogText lines entries

-- the text is a program's, and the line of this number is the first that is no entry's
pub record HasBadLine (text lines : List ℕ) (number : ℕ) : Type 0 where
  pub program : Program
  pub accepts : AcceptsText text program
  pub bad : IsBadLine lines number

-- the entry of this number is the first with which the log is none of the code of the text's program for this version
pub record HasBadEntry (version : ImageVersion) (text lines : List ℕ) (number : ℕ) : Type 0 where
  pub log : ReadsLog text lines
  pub stops : StopsAt (code_as version log.program) log.entries number

-- the text is a program's, and the lines are those of a log of more steps than these
pub record HasLongLog (text lines : List ℕ) (most : ℕ) : Type 0 where
  pub program : Program
  pub accepts : AcceptsText text program
  pub many : HasManySteps lines most

-- why a log of at most so many steps isn't explained
abbrev pub IsRefusedLog : ImageVersion → List ℕ → List ℕ → (most : ℕ) → SourceLogFault → Type 0
IsRefusedLog version text lines most (Refused e) = (e ≡ out_of_memory) ⊎ RefusesTextAs version text e
IsRefusedLog version text lines most (Line number) = HasBadLine text lines number
IsRefusedLog version text lines most (Steps n) = (n ≡ most) × HasLongLog text lines most
IsRefusedLog version text lines most (Entry' number) = HasBadEntry version text lines number
IsRefusedLog version text lines most Memory = Unit {0}

-- no refusal of the text but for want of memory
abbrev pub IsOfLog : SourceLogFault → Type 0
IsOfLog (Refused e) = e ≡ out_of_memory
IsOfLog (Line number) = Unit {0}
IsOfLog (Entry' number) = Unit {0}
IsOfLog (Steps n) = Unit {0}
IsOfLog Memory = Unit {0}

-- the text is a program's whose code for this version fits, and the lines are those of a log of a run of it of at most so
-- many steps
pub record LinesOfRun (version : ImageVersion) (text lines : List ℕ) (most : ℕ) : Type 0 where
  pub program : Program
  pub accepts : AcceptsText text program
  pub fits : CodeFits (as_version version program)
  pub entries : List Entry
  pub reads : IsLogText lines entries
  pub machine : PieceConcrete
  pub legal : LeadsTo (code_as version program) entries machine
  pub short : cost entries < 2 ^ 32
  pub few : cost entries ≤ most

-- there is no memory
abbrev pub IsWantOfMemory : SourceLogFault → Type 0
IsWantOfMemory (Refused e) = e ≡ out_of_memory
IsWantOfMemory Memory = Unit {0}
IsWantOfMemory fault = ⊥

-- the report of the code of the text's program for this version, run by the threads and counts of the log that the lines
-- are: a run of the machine, whose steps are those of the report's own log, one by one, and which a run of the program
-- explains; its verdict is one on the source
pub record IsReplayOfLog (version : ImageVersion) (text lines : List ℕ) (report : Report) : Type 0 where
  pub log : ReadsLog text lines
  pub followed : IsFollowedLog (code_as version log.program) log.entries report
  pub steps : List Step
  pub count : length steps ≡ cost report.log.items
  pub labels : map label_of steps ≡ map event_label (steps_of report.log.items)
  pub machine_run : PieceRun (code_as version log.program) run_buckets steps (pieces_at (parts report.last))
  pub explained : ExplainedInPieces (as_version version log.program) (code_as version log.program) steps
      (pieces_at (parts report.last))
  pub says : SaysOf report.verdict (as_version version log.program) explained.source

-- the entry of this number is the first that the code of the text's program for this version can't follow
pub record CannotFollow (version : ImageVersion) (text lines : List ℕ) (number : ℕ) : Type 0 where
  pub log : ReadsLog text lines
  pub fails : IsBadLogEntry (code_as version log.program) log.entries number

-- why a log of at most so many steps isn't run again
abbrev pub IsUnfollowedLog : ImageVersion → List ℕ → List ℕ → (most : ℕ) → SourceLogFault → Type 0
IsUnfollowedLog version text lines most (Refused e) = (e ≡ out_of_memory) ⊎ RefusesTextAs version text e
IsUnfollowedLog version text lines most (Line number) = HasBadLine text lines number
IsUnfollowedLog version text lines most (Steps n) = (n ≡ most) × HasLongLog text lines most
IsUnfollowedLog version text lines most (Entry' number) = CannotFollow version text lines number
IsUnfollowedLog version text lines most Memory = Unit {0}
