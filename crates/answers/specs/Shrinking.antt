-- A schedule that comes from outside, by which the run of a source text fails, and a shorter one.
use Rattle.std.proofs.Common.{Bor}
use Rattle.std.specs.Prelude.{ℕ, ◌++◌, Bool, true, false, List, [], Some, codes, length}
use Rattle.std.specs.Fmt.{decimal}
use Rattle.words.specs.Outcomes.{fault_number}
use Rattle.words.specs.declared.version.ImageVersion.{ImageVersion}
use Rattle.isa.specs.Programs.{Program}
use Rattle.runner.specs.declared.schedule.Turn.{Turn}
use Rattle.schedules.specs.Shrinking.{IsShrunk}
use Rattle.schedules.specs.Switches.{switches}
use Rattle.schedules.specs.declared.failing.RunFailure.{RunFailure}
use Rattle.schedules.specs.declared.failing.RunFailure.TheVariants.{Stuck, Aborted}
use Rattle.schedules.specs.declared.shrinking.ShrunkSchedule.{ShrunkSchedule}
use Rattle.compiler.specs.Compiles.{IsCompiledAs}
use Rattle.answers.specs.Answers.{TellsAlone}
use Rattle.answers.specs.ScheduleText.{schedule_text}
use Rattle.answers.specs.Turns.{turns_in}
use Rattle.answers.specs.declared.answer.Answer.{Answer}

-- the line of what a run fails by
abbrev pub failure_line : RunFailure → List ℕ
failure_line Stuck = codes "stuck\n"
failure_line (Aborted t fault) =
    codes "process " ++ (decimal t ++ (codes " aborted: fault " ++ (decimal (fault_number fault) ++ codes "\n")))

-- the line of how long two schedules are
abbrev pub sizes_line : (given turns : List Turn) → List ℕ
sizes_line given turns =
    codes "entries " ++ (decimal (length given) ++ (codes " to " ++ (decimal (length turns) ++ (codes ", switches "
    ++ (decimal (switches given) ++ (codes " to " ++ (decimal (switches turns) ++ codes "\n")))))))

-- the line of a schedule of which no turn can be left out
abbrev pub minimal_line : Bool → List ℕ
minimal_line true = codes "no entry can be left out\n"
minimal_line false = []

-- what is told of a schedule that was made shorter
abbrev pub shrunk_lines : (given : List Turn) → ShrunkSchedule → List ℕ
shrunk_lines given s = (failure_line s.failure ++ sizes_line given s.turns.items) ++ minimal_line s.minimal

-- the text's code for this version fails by the schedule; one by which it fails alike and that is no longer is written to the
-- file of this name, and that was told
pub record HasShrunk (version : ImageVersion) (out : Bor (List ℕ)) (text second : List ℕ) (a : Answer) : Type 0 where
  pub image : Program
  pub compiled : IsCompiledAs version text image
  pub schedule : ShrunkSchedule
  pub shrunk : IsShrunk image (turns_in second) schedule
  pub tells : TellsAlone (shrunk_lines (turns_in second) schedule) (Some (out, schedule_text schedule.turns.items)) a
