-- What comes of a log that is to be explained.
use Rattle.std.specs.Prelude.{◌≡◌, List, map}
use Rattle.isa.specs.Programs.{Program as Image}
use Rattle.piece_machine.specs.PieceViews.{PieceView, parts}
use Rattle.machine.specs.Views.{concrete}
use Rattle.machine.specs.declared.event.Entry.{Entry}
use Rattle.runner.specs.Reports.{IsVerdict}
use Rattle.runner.specs.declared.report.Verdict.{Verdict}
use Rattle.program.specs.Trees.{Program}
use Rattle.lowering.specs.Pieces.{code_of}
use Rattle.meaning.specs.Labels.{Action}
use Rattle.source_states.specs.Actions.{action_of}
use Rattle.log_simulation.specs.declared.explained_log.ExplainedLog.{ExplainedLog}
use Rattle.simulation.specs.declared.fault.ExplainFault.{ExplainFault}
use Rattle.simulation.specs.declared.fault.ExplainFault.TheVariants.{NotARun, OtherImage, Memory}
use Rattle.simulation.specs.declared.fault.LogFault.{LogFault}
use Rattle.simulation.specs.declared.fault.LogFault.TheVariants as log
use Rattle.log_simulation.specs.Verdicts.{SaysOf}
pub use Rattle.log_simulation.specs.Explanations.{LeadsTo, IsNoLog, IsRecorded, StopsAt}

-- the image is the program's, the log is legal for it, and the actions are the explanation of the run of the machine
-- that the log is, which explains it in all that a refinement promises
pub record IsExplainedLog (p : Program) (image : Image) (log : List Entry) (actions : List Action) : Type 0 where
  pub code : image ≡ code_of p
  pub recorded : IsRecorded p log actions

-- why a log isn't explained
abbrev pub RefusesLog : Program → Image → List Entry → ExplainFault → Type 0
RefusesLog p image log OtherImage = image ≡ code_of p → ⊥
RefusesLog p image log NotARun = (image ≡ code_of p) × IsNoLog image log
RefusesLog p image log Memory = Unit {0}

-- the machine stands where the log leads
pub record IsLast (image : Image) (entries : List Entry) (last : PieceView) : Type 0 where
  pub program : last.view.program ≡ image
  pub leads : LeadsTo image entries (parts last)

-- the log is explained, and the machine stands where it leads. A verdict on it is one on the source
pub record ExplainsEntries (p : Program) (image : Image) (entries : List Entry) (e : ExplainedLog) : Type 0 where
  pub explained : IsExplainedLog p image entries (map action_of e.actions.items)
  pub last : IsLast image entries e.last
  pub says : (verdict : Verdict) → IsVerdict (concrete e.last.view) verdict
      → SaysOf verdict p explained.recorded.explained.explained.source

-- why a log of the program's image isn't explained: the entry of this number is the first with which it is none
abbrev pub RefusesLogEntry : Image → List Entry → LogFault → Type 0
RefusesLogEntry image entries (log.Entry number) = StopsAt image entries number
RefusesLogEntry image entries log.Memory = Unit {0}
