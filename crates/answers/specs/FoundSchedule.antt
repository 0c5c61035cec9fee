-- A schedule by which a text's image fails as a run of the text does that a search found.
use Rattle.std.proofs.Common.{Bor}
use Rattle.std.specs.Prelude.{◌≡◌, ◌⊎◌, ℕ, Bool, false, true, is_some, List, [], None, Option, Some, codes}
use Rattle.words.specs.declared.version.ImageVersion.{ImageVersion}
use Rattle.isa.specs.Programs.{Program}
use Rattle.runner.specs.declared.schedule.Turn.{Turn}
use Rattle.schedules.specs.Failing.{FailsOn}
use Rattle.schedules.specs.declared.failing.RunFailure.{RunFailure}
use Rattle.schedules.specs.declared.failing.RunFailure.TheVariants.{Stuck, Aborted}
use Rattle.guided_schedules.specs.declared.following.GuidedSchedule.{GuidedSchedule}
use Rattle.guided_schedules.specs.declared.following.GuidedSchedule.TheVariants.{Found, OtherChoice, Unknown}
use Rattle.source_search.specs.declared.runs.Exploration.{Exploration}
use Rattle.compiler.specs.Compiles.{IsCompiledAs}
use Rattle.answers.specs.Answers.{Put}
use Rattle.answers.specs.ScheduleText.{schedule_text}

-- a run that was found fails so: by getting stuck where one does, and else by a fault
abbrev pub IsFailureOf : Exploration → RunFailure → Type 0
IsFailureOf e Stuck = is_some e.stuck ≡ true
IsFailureOf e (Aborted t fault) = (is_some e.stuck ≡ false) × (is_some e.aborted ≡ true)

-- it is a fault
abbrev pub IsFault : RunFailure → Type 0
IsFault Stuck = ⊥
IsFault (Aborted t fault) = Unit {0}

-- these bytes spell a schedule that the text's image of this version follows to its end, and that run fails so too
pub record SpellsSchedule (version : ImageVersion) (text : List ℕ) (e : Exploration) (bytes : List ℕ) : Type 0 where
  pub image : Program
  pub compiled : IsCompiledAs version text image
  pub turns : List Turn
  pub failure : RunFailure
  pub alike : IsFailureOf e failure
  pub fails : FailsOn image turns failure
  pub spelled : bytes ≡ schedule_text turns

-- a schedule that was found is spelled so
abbrev pub SpellsGuided : ImageVersion → (text : List ℕ) → Exploration → GuidedSchedule → Type 0
SpellsGuided version text e (Found turns) = SpellsSchedule version text e (schedule_text turns.items)
SpellsGuided version text e OtherChoice = Unit {0}
SpellsGuided version text e Unknown = Unit {0}

-- what standard error gets where no schedule was found: a notify of the run resumes another process than this machine does,
-- or why is not known
abbrev pub other_choice : List ℕ
other_choice = codes "no schedule was found: a NOTIFY resumes another process than the machine would\n"

abbrev pub no_schedule : List ℕ
no_schedule = codes "no schedule was found\n"

-- what is told where no schedule is written though one is asked for
abbrev pub IsUnscheduled : Bool → List ℕ → Type 0
IsUnscheduled true account = (account ≡ other_choice) ⊎ (account ≡ no_schedule)
IsUnscheduled false account = account ≡ []

-- what becomes of a schedule that is asked for: it is in the file of this name; or there is none, and that is told where a run
-- was found
abbrev pub IsScheduled : ImageVersion → (text : List ℕ) → Exploration → (found : Bool) → Option (Bor (List ℕ)) → Option Put
    → List ℕ → Type 0
IsScheduled version text e found None file account = (file ≡ None) × (account ≡ [])
IsScheduled version text e found (Some out) file account =
    ((bytes : List ℕ) × SpellsSchedule version text e bytes × (file ≡ Some (out, bytes)) × (account ≡ []))
    ⊎ ((file ≡ None) × IsUnscheduled found account)
