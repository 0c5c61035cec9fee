-- What is asked for of a text: which run of it.
use Rattle.std.proofs.Common.{Bor}
use Rattle.std.specs.Prelude.{ℕ, List, Option, None, is_some}
use Rattle.words.specs.declared.version.ImageVersion.{ImageVersion}
use Rattle.isa.specs.Programs.{Program as Image}
use Rattle.commandline.specs.declared.options.ExplainedBy.{ExplainedBy}
use Rattle.commandline.specs.declared.options.ExplainedBy.TheVariants.{Order, Seed, Schedule, Log}
use Rattle.commandline.specs.declared.options.Order.{Order as OrderOf}
use Rattle.commandline.specs.declared.options.Order.TheVariants.{Workers, InOrder, Seed as InSeed}
use Rattle.commandline.specs.declared.options.RunOptions.{RunOptions}
use Rattle.commandline.specs.declared.options.ReplayedBy.{ReplayedBy}
use Rattle.commandline.specs.declared.options.ReplayedBy.TheVariants.{Schedule as BySchedule, Log as ByLog}
use Rattle.runner.specs.Logs.{Outside, nothing_outside, outside_of}
use Rattle.runner.specs.Reports.{IsReport}
use Rattle.runner.specs.declared.report.Report.{Report}
use Rattle.answers.specs.declared.explained_run.ExplainedRun.{ExplainedRun}
use Rattle.answers.specs.Explaining.{IsExplanation}
use Rattle.answers.specs.LogLimits.{HasFewSteps}
use Rattle.answers.specs.Replaying.{IsReplayOfText}
use Rattle.answers.specs.Running.{IsReportBySeed, IsReportInOrder, IsRunBySeed, IsRunInOrder, IsRunOfText}
use Rattle.answers.specs.SourceLog.{IsExplanationOfLog, IsReplayOfLog}
use Rattle.answers.specs.Turns.{turns_in}

-- what may come from outside in a run in this order
abbrev pub outside_by : OrderOf → Outside
outside_by Workers = nothing_outside
outside_by InOrder = nothing_outside
outside_by (InSeed seed strays kills) = outside_of (is_some strays) kills

-- the run that is made of a text's code for this version, in this order and within this limit
abbrev pub IsRunBy : ImageVersion → OrderOf → (limit : ℕ) → List ℕ → Report → Type 0
IsRunBy version Workers limit text report = IsRunOfText version text nothing_outside limit report
IsRunBy version InOrder limit text report = IsRunInOrder version text limit report
IsRunBy version (InSeed seed strays kills) limit text report = IsRunBySeed version text strays kills limit seed report

-- the run that is made of an image, in this order and within this limit
abbrev pub IsImageRunBy : OrderOf → (limit : ℕ) → Image → Report → Type 0
IsImageRunBy Workers limit image report = IsReport image nothing_outside limit report
IsImageRunBy InOrder limit image report = IsReportInOrder image limit report
IsImageRunBy (InSeed seed strays kills) limit image report = IsReportBySeed image strays kills limit seed report

-- that of a text, as the options say
abbrev pub IsRunAs : ImageVersion → RunOptions → List ℕ → Report → Type 0
IsRunAs version options text report = IsRunBy version options.order options.steps text report

-- the run that is explained, by what is named; with these bytes in the schedule or the log
abbrev pub IsExplainedAs : ImageVersion → ExplainedBy → (second : List ℕ) → List ℕ → ExplainedRun → Type 0
IsExplainedAs version (Order steps) second text r = IsExplanation version text (IsRunInOrder version text steps) r
IsExplainedAs version (Seed steps seed strays kills) second text r =
    IsExplanation version text (IsRunBySeed version text strays kills steps seed) r
IsExplainedAs version (Schedule name) second text r =
    IsExplanation version text (IsReplayOfText version text (turns_in second)) r
IsExplainedAs version (Log name steps) second text r =
    IsExplanationOfLog version text second r × HasFewSteps second steps

-- the run again, by what is named, with these bytes
abbrev pub IsReplayedAs : ImageVersion → ReplayedBy → (second : List ℕ) → List ℕ → Report → Type 0
IsReplayedAs version (BySchedule name log) second text r = IsReplayOfText version text (turns_in second) r
IsReplayedAs version (ByLog name steps) second text r = IsReplayOfLog version text second r × HasFewSteps second steps

-- the file that the log of a replay is written to, where one is named
abbrev pub log_beside : ReplayedBy → Option (Bor (List ℕ))
log_beside (BySchedule name log) = log
log_beside (ByLog name steps) = None
