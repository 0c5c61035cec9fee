-- How a log is explained.
use Rattle.std.specs.Prelude.{ℕ, ◌≡◌, ◌+◌, ◌<◌, ◌≤◌, ◌^◌, List, length, map, take}
use Rattle.words.specs.Limits.{run_buckets}
use Rattle.isa.specs.Programs.{Program as Image}
use Rattle.machine.specs.FrontRuns.{EventStep, label_of, event_label}
use Rattle.machine.specs.PieceSteps.{PieceRun}
use Rattle.machine.specs.Runs.{Step}
use Rattle.machine.specs.declared.event.Entry.{Entry}
use Rattle.piece_machine.specs.PieceConcrete.{PieceConcrete, pieces_at}
use Rattle.piece_machine.specs.PieceViews.{parts}
use Rattle.runner.specs.LogRuns.{steps_of}
use Rattle.runner.specs.Logs.{Runs, cost, opening}
use Rattle.runner.specs.Reports.{IsVerdict}
use Rattle.runner.specs.declared.report.Verdict.{Verdict}
use Rattle.program.specs.Trees.{Program}
use Rattle.lowering.specs.Pieces.{code_of}
use Rattle.meaning.specs.Labels.{Action}
use Rattle.proof_explaining.specs.PieceProgress.{explanation_of_pieces}
use Rattle.refinement.specs.Pieces.{ExplainedInPieces}
use Rattle.source_states.specs.Actions.{action_of}
use Rattle.log_simulation.specs.Verdicts.{SaysOf}
use Rattle.log_simulation.specs.declared.explained_log.ExplainedLog.{ExplainedLog}
use Rattle.log_simulation.specs.declared.explained_log.LogExplanation.{LogExplanation}
use Rattle.log_simulation.specs.declared.explained_log.LogExplanation.TheVariants as told

-- the entries are legal for the image, one by one, and lead there
abbrev pub LeadsTo : Image → List Entry → PieceConcrete → Type 0
LeadsTo image log k = Runs image (opening image) log k

-- they are no log of a run: they lead nowhere, or have 2^32 steps or more
abbrev pub IsNoLog : Image → List Entry → Type 0
IsNoLog image log = (k : PieceConcrete) → LeadsTo image log k → 2 ^ 32 ≤ cost log

-- the entry of this number, from 1, is the first with which they are none: those before it are a log of a run
pub record StopsAt (image : Image) (log : List Entry) (number : ℕ) : Type 0 where
  pub before : ℕ
  pub counted : number ≡ before + 1
  pub inside : before < length log
  pub machine : PieceConcrete
  pub legal : LeadsTo image (take before log) machine
  pub short : cost (take before log) < 2 ^ 32
  pub stops : IsNoLog image (take number log)

-- a run of the machine of these steps leads there, and the actions are its explanation, which explains it in all that a
-- refinement promises. A verdict on the machine is one on the source
pub record IsExplanationOf (p : Program) (events : List EventStep) (k : PieceConcrete)
    (actions : List Action) : Type 0 where
  pub steps : List Step
  pub run : PieceRun (code_of p) run_buckets steps (pieces_at k)
  pub labels : map label_of steps ≡ map event_label events
  pub explains : actions ≡ explanation_of_pieces p run_buckets steps (pieces_at k) run
  pub explained : ExplainedInPieces p (code_of p) steps (pieces_at k)
  pub same : explained.actions ≡ actions
  pub says : (verdict : Verdict) → IsVerdict k.concrete verdict → SaysOf verdict p explained.source

-- the log is legal for the code of the program, and the actions explain the run of the machine that it is
pub record IsRecorded (p : Program) (log : List Entry) (actions : List Action) : Type 0 where
  pub machine : PieceConcrete
  pub legal : LeadsTo (code_of p) log machine
  pub short : cost log < 2 ^ 32
  pub explained : IsExplanationOf p (steps_of log) machine actions

-- the log is recorded, and the machine is where it leads
pub record IsExplained (p : Program) (log : List Entry) (e : ExplainedLog) : Type 0 where
  pub recorded : IsRecorded p log (map action_of e.actions.items)
  pub last : parts e.last ≡ recorded.machine
  pub program : e.last.view.program ≡ code_of p

-- how a log of the program's image is explained
abbrev pub ExplainsLog : Program → List Entry → LogExplanation → Type 0
ExplainsLog p log (told.StopsAt number) = StopsAt (code_of p) log number
ExplainsLog p log (told.Explained e) = IsExplained p log e
