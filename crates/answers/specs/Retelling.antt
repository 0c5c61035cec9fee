-- What is told of a run of a source text whose actions stand in a file.
use Rattle.std.proofs.Common.{Bor}
use Rattle.std.specs.Prelude.{◌≡◌, ℕ, Bool, List, [], Option}
use Rattle.std.specs.List.{flat_map}
use Rattle.program.specs.Names.{CheckedProgram, Naming, said_by}
use Rattle.meaning.specs.Labels.{Action as ActionOf}
use Rattle.actionlines.specs.Lines.{line}
use Rattle.action_text.specs.Following.{StopsText, TellsRun}
use Rattle.action_text.specs.Reading.{IsBadLine}
use Rattle.action_text.specs.declared.ends.RunEnd.{RunEnd}
use Rattle.action_text.specs.declared.ends.RunEnd.TheVariants as end
use Rattle.commandline.specs.declared.options.ChartOptions.{ChartOptions}
use Rattle.compiler.specs.Accepts.{AcceptsText}
use Rattle.answers.specs.Answers.{AreDrawn, AreTold}
use Rattle.answers.specs.declared.answer.Answer.{Answer}
use Rattle.answers.specs.declared.failure.Failure.{Failure}
use Rattle.answers.specs.declared.failure.Failure.TheVariants.{ActionLine, Action}
use Rattle.answers.specs.declared.status.Status.{Status}
use Rattle.answers.specs.declared.status.Status.TheVariants.{Done, Stuck, Limit}

-- the exit status of a run, by its end
abbrev pub status_of_end : RunEnd → Status
status_of_end end.Over = Done
status_of_end end.Stuck = Stuck
status_of_end end.Open = Limit

-- the lines of these actions are told alone, with their places where those are asked for, and the run is drawn, timed and
-- shown on a page, to the files of these names
pub record TellsActions (names : Naming) (places : Bool) (chart : Option ChartOptions) (timeline page : Option (Bor (List ℕ)))
    (actions : List ActionOf) (end : RunEnd) (a : Answer)
    : Type 0
  where
    pub ended : a.status ≡ status_of_end end
    pub are_told : AreTold places (flat_map (line names) actions) a.output.items
    pub account : a.account.items ≡ []
    pub files : AreDrawn chart timeline page a.files

-- the lines are those of the actions of a run of the program, and that was told
pub record RetellsRun (c : CheckedProgram) (lines : List ℕ) (places : Bool) (chart : Option ChartOptions)
    (timeline page : Option (Bor (List ℕ))) (a : Answer)
    : Type 0
  where
    pub actions : List ActionOf
    pub end : RunEnd
    pub run : TellsRun c lines actions end
    pub tells : TellsActions c.names places chart timeline page actions end a

-- the same of the text's program
pub record HasRetold (lines : List ℕ) (places : Bool) (chart : Option ChartOptions) (timeline page : Option (Bor (List ℕ)))
    (text : List ℕ) (a : Answer)
    : Type 0
  where
    pub checked : CheckedProgram
    pub accepts : AcceptsText text (said_by checked)
    pub retells : RetellsRun checked lines places chart timeline page a

-- why lines tell no run of a program: the first that is no action's; or the first action that can't come next
abbrev pub StopsRetelling : CheckedProgram → (lines : List ℕ) → Failure → Type 0
StopsRetelling c lines (ActionLine n) = IsBadLine c.names lines n
StopsRetelling c lines (Action n) = StopsText c lines n
StopsRetelling c lines f = ⊥

-- the same of the text's program
pub record FailsRetelling (text lines : List ℕ) (f : Failure) : Type 0 where
  pub checked : CheckedProgram
  pub accepts : AcceptsText text (said_by checked)
  pub fails : StopsRetelling checked lines f
