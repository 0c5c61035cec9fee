-- What a run of a source text by a schedule answers.
use Rattle.std.specs.Prelude.{◌≡◌, ◌⊎◌, ℕ, List, map}
use Rattle.words.specs.Limits.{run_buckets}
use Rattle.words.specs.declared.version.ImageVersion.{ImageVersion}
use Rattle.isa.specs.Programs.{Program as Image}
use Rattle.machine.specs.PieceSteps.{PieceRun}
use Rattle.machine.specs.Runs.{Step}
use Rattle.piece_machine.specs.PieceConcrete.{pieces_at}
use Rattle.piece_machine.specs.PieceViews.{parts}
use Rattle.program.specs.Trees.{Program, as_version}
use Rattle.refinement.specs.Pieces.{ExplainedInPieces}
use Rattle.log_simulation.specs.Verdicts.{SaysOf}
use Rattle.runner.specs.declared.report.Report.{Report}
use Rattle.runner.specs.declared.schedule.ScheduleFault.TheVariants as follow
use Rattle.runner.specs.declared.schedule.Turn.{Turn}
use Rattle.runner.specs.Schedules.{FailsAt, IsFollowed, turn_by}
use Rattle.answers.specs.declared.replaying.ReplayFault.{ReplayFault}
use Rattle.answers.specs.declared.replaying.ReplayFault.TheVariants.{Refused, BadEntry, Memory}
use Rattle.answers.specs.Versions.{code_as}
use Rattle.compiler.specs.Accepts.{AcceptsText, RefusesTextAs}
use Rattle.scanner.specs.Refusals.{out_of_memory}

-- the turn that a step of the machine is
abbrev pub step_turn : Step → Turn
step_turn s = turn_by s.doing s.thread

-- a report of the code of the text's program for this version by a schedule: a run of the machine that has one step for
-- each turn, in that order, which a run of the program explains; its verdict is one on the source
pub record IsReplayOfText (version : ImageVersion) (text : List ℕ) (schedule : List Turn) (report : Report) : Type 0 where
  pub program : Program
  pub accepts : AcceptsText text program
  pub followed : IsFollowed (code_as version program) schedule report
  pub steps : List Step
  pub turns : map step_turn steps ≡ schedule
  pub machine_run : PieceRun (code_as version program) run_buckets steps (pieces_at (parts report.last))
  pub explained : ExplainedInPieces (as_version version program) (code_as version program) steps
      (pieces_at (parts report.last))
  pub says : SaysOf report.verdict (as_version version program) explained.source

-- why an image of a text isn't run by a schedule to its end: the first entry that is refused, or want of memory
abbrev pub IsLeftSchedule : Image → List Turn → ReplayFault → Type 0
IsLeftSchedule image schedule (Refused e) = ⊥
IsLeftSchedule image schedule (BadEntry number) = FailsAt image schedule (follow.BadEntry number)
IsLeftSchedule image schedule Memory = Unit {0}

-- the entry of this number is the first that the code of the text's program refuses
pub record IsBadEntry (version : ImageVersion) (text : List ℕ) (schedule : List Turn) (number : ℕ) : Type 0 where
  pub program : Program
  pub accepts : AcceptsText text program
  pub fails : FailsAt (code_as version program) schedule (follow.BadEntry number)

-- the text's refusal, or the schedule's bad entry, or want of memory
abbrev pub IsRefusedReplay : ImageVersion → List ℕ → List Turn → ReplayFault → Type 0
IsRefusedReplay version text schedule (Refused e) = (e ≡ out_of_memory) ⊎ RefusesTextAs version text e
IsRefusedReplay version text schedule (BadEntry number) = IsBadEntry version text schedule number
IsRefusedReplay version text schedule Memory = Unit {0}

-- no refusal of the text but for want of memory
abbrev pub IsNoRefusal : ReplayFault → Type 0
IsNoRefusal (Refused e) = e ≡ out_of_memory
IsNoRefusal (BadEntry number) = Unit {0}
IsNoRefusal Memory = Unit {0}
