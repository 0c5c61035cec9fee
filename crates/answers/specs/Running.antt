-- What a run of a source text answers.
use Rattle.std.specs.Prelude.{◌≡◌, ◌⊎◌, ℕ, List, Option, is_some, length, map}
use Rattle.words.specs.Limits.{run_buckets}
use Rattle.machine.specs.FrontRuns.{event_label, label_of}
use Rattle.machine.specs.PieceSteps.{PieceRun}
use Rattle.machine.specs.Runs.{Step}
use Rattle.piece_machine.specs.PieceConcrete.{pieces_at}
use Rattle.piece_machine.specs.PieceViews.{parts}
use Rattle.words.specs.declared.version.ImageVersion.{ImageVersion}
use Rattle.isa.specs.Programs.{Program as Image}
use Rattle.program.specs.Trees.{Program, as_version}
use Rattle.refinement.specs.Pieces.{ExplainedInPieces}
use Rattle.log_simulation.specs.Verdicts.{SaysOf}
use Rattle.runner.specs.declared.fault.RunFault.{RunFault}
use Rattle.runner.specs.declared.report.Report.{Report}
use Rattle.runner.specs.LogRuns.{steps_of}
use Rattle.runner.specs.Logs.{Outside, cost, nothing_outside, outside_of}
use Rattle.runner.specs.Orders.{IsInOrder}
use Rattle.runner.specs.Reports.{IsReport, CanFail}
use Rattle.runner.specs.Seeds.{IsBySeed}
use Rattle.answers.specs.declared.source_run.RunSourceFault.{RunSourceFault}
use Rattle.answers.specs.declared.source_run.RunSourceFault.TheVariants.{Refused, Run}
use Rattle.answers.specs.Versions.{code_as}
use Rattle.compiler.specs.Accepts.{AcceptsText, RefusesTextAs}
use Rattle.scanner.specs.Refusals.{out_of_memory}

-- a report of a run of the code of the text's program for this version, with no more from outside than may be in it: a
-- run of the machine, whose steps are those of the report's log, one by one, and which a run of the program explains. Its
-- verdict is one on the source: each process is over, or the source is stuck, and each process waits that isn't over
pub record IsRunOfText (version : ImageVersion) (text : List ℕ) (may : Outside) (limit : ℕ) (report : Report) : Type 0
  where
    pub program : Program
    pub accepts : AcceptsText text program
    pub is_report : IsReport (code_as version program) may limit report
    pub steps : List Step
    pub count : length steps ≡ cost report.log.items
    pub labels : map label_of steps ≡ map event_label (steps_of report.log.items)
    pub machine_run : PieceRun (code_as version program) run_buckets steps (pieces_at (parts report.last))
    pub explained : ExplainedInPieces (as_version version program) (code_as version program) steps
        (pieces_at (parts report.last))
    pub says : SaysOf report.verdict (as_version version program) explained.source

-- a report of a run of an image in order: its threads go round by rising number, each that can move and isn't stopped
pub record IsReportInOrder (image : Image) (limit : ℕ) (report : Report) : Type 0 where
  pub is_report : IsReport image nothing_outside limit report
  pub order : IsInOrder image limit report.log.items

-- the same of a run of a text in order
pub record IsRunInOrder (version : ImageVersion) (text : List ℕ) (limit : ℕ) (report : Report) : Type 0 where
  pub run : IsRunOfText version text nothing_outside limit report
  pub order : IsInOrder (code_as version run.program) limit report.log.items

-- a report of a run of an image in the order that follows from a seed, with as much from outside as is asked for
pub record IsReportBySeed (image : Image) (strays : Option ℕ) (kills limit seed : ℕ) (report : Report) : Type 0 where
  pub is_report : IsReport image (outside_of (is_some strays) kills) limit report
  pub seeded : IsBySeed image strays kills limit seed report.log.items

-- the same of a run of a text by a seed
pub record IsRunBySeed (version : ImageVersion) (text : List ℕ) (strays : Option ℕ) (kills limit seed : ℕ)
    (report : Report) : Type 0 where
  pub run : IsRunOfText version text (outside_of (is_some strays) kills) limit report
  pub seeded : IsBySeed (code_as version run.program) strays kills limit seed report.log.items

-- the run of that code can fail so
pub record IsFailedRun (version : ImageVersion) (text : List ℕ) (may : Outside) (limit : ℕ) (fault : RunFault) : Type 0
  where
    pub program : Program
    pub accepts : AcceptsText text program
    pub fails : CanFail (code_as version program) may limit fault

-- the text's refusal, or want of memory, or a fault of the run
abbrev pub IsRefusedRun : ImageVersion → List ℕ → Outside → ℕ → RunSourceFault → Type 0
IsRefusedRun version text may limit (Refused e) = (e ≡ out_of_memory) ⊎ RefusesTextAs version text e
IsRefusedRun version text may limit (Run fault) = IsFailedRun version text may limit fault

-- no refusal but for want of memory
abbrev pub IsMemory : RunSourceFault → Type 0
IsMemory (Refused e) = e ≡ out_of_memory
IsMemory (Run fault) = Unit {0}
