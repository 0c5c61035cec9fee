-- What the failure of a job comes of, where that is no want of memory.
use Rattle.std.proofs.Common.{Bor}
use Rattle.std.specs.Prelude.{ℕ, ◌≡◌, ◌<◌, ◌⊎◌, Bool, true, false, List, length, Option, Some, None, Err}
use Rattle.words.specs.declared.version.ImageVersion.{ImageVersion}
use Rattle.isa.specs.Programs.{Program}
use Rattle.isa.specs.Reading.{program_of}
use Rattle.scanner.specs.Limits.{most_bytes}
use Rattle.machine.specs.declared.event.Entry.{Entry}
use Rattle.runner.specs.LogSchedules.{IsBadLogEntry}
use Rattle.runner.specs.Reports.{MeetsBroken}
use Rattle.runner.specs.Schedules.{FailsAt}
use Rattle.runner.specs.declared.fault.RunFault.TheVariants as fault
use Rattle.runner.specs.declared.schedule.ScheduleFault.TheVariants as follow
use Rattle.log_text.specs.Spelled.{IsBadLine, IsLogText}
use Rattle.schedules.specs.Shrinking.{HasNoFailure}
use Rattle.program.specs.Trees.{Program as ProgramOf}
use Rattle.commandline.specs.declared.options.Exits.{Exits}
use Rattle.commandline.specs.declared.options.Exits.TheVariants as exits
use Rattle.commandline.specs.declared.options.ExplainedBy.{ExplainedBy}
use Rattle.commandline.specs.declared.options.ExplainedBy.TheVariants as explained
use Rattle.commandline.specs.declared.options.ImageForm.{ImageForm}
use Rattle.commandline.specs.declared.options.ImageForm.TheVariants as form
use Rattle.commandline.specs.declared.options.ReplayedBy.{ReplayedBy}
use Rattle.commandline.specs.declared.options.ReplayedBy.TheVariants as replayed
use Rattle.commandline.specs.declared.options.RunOptions.{RunOptions}
use Rattle.compiler.specs.Accepts.{AcceptsText}
use Rattle.compiler.specs.Compiles.{IsCompiledAs}
use Rattle.answers.specs.Asked.{outside_by}
use Rattle.answers.specs.Done.{IsListed}
use Rattle.answers.specs.Images.{IsImageBy, IsImageOf, is_first}
use Rattle.answers.specs.LogLimits.{HasManySteps, log_bytes}
use Rattle.answers.specs.Replaying.{IsBadEntry}
use Rattle.answers.specs.SourceLog.{CannotFollow, HasBadEntry, HasBadLine, HasLongLog}
use Rattle.answers.specs.Turns.{turns_in}
use Rattle.answers.specs.Versions.{code_as}
use Rattle.answers.specs.declared.failure.Failure.{Failure}
use Rattle.answers.specs.declared.failure.Failure.TheVariants.{OtherImage, Image, FirstVersion, Run, Schedule, Broken}
use Rattle.answers.specs.declared.failure.Failure.TheVariants.{NoFailure, LogLine, LogEntry, LogSteps, LogBytes}

-- the bytes are no image, and this is their first fault
abbrev pub IsNoImage : (bytes : List ℕ) → Failure → Type 0
IsNoImage bytes (Image e) = program_of bytes ≡ Err e
IsNoImage bytes f = ⊥

-- there is no image to list, where not a source text's code is listed
abbrev pub CannotList : (linux : Bool) → (bytes : List ℕ) → Failure → Type 0
CannotList false bytes f = IsNoImage bytes f
CannotList true bytes f = ⊥

-- the image of the source text is another one
pub record IsOfAnother (source : List ℕ) (image : Program) : Type 0 where
  pub own : Program
  pub compiled : IsCompiledAs image.version source own
  pub other : own ≡ image → ⊥

-- so it is with the source beside an image, in the file of this name, where one is named
abbrev pub IsBesideAnother : Option (Bor (List ℕ)) → (second : List ℕ) → Program → Failure → Type 0
IsBesideAnother None second image f = ⊥
IsBesideAnother (Some name) second image f = (f ≡ OtherImage name) × IsOfAnother second image

-- why there is no listing
abbrev pub FailsListing : (linux : Bool) → Option (Bor (List ℕ)) → (bytes second : List ℕ) → Failure → Type 0
FailsListing linux source bytes second f =
    CannotList linux bytes f ⊎ ((image : Program) × IsListed linux bytes image × IsBesideAnother source second image f)

-- a file of this form has no image
abbrev pub HasNoImage : ImageForm → (bytes : List ℕ) → Failure → Type 0
HasNoImage form.Assembly bytes f = ⊥
HasNoImage form.Image bytes f = IsNoImage bytes f

-- by this rule of exits an image isn't run, for its version
abbrev pub CannotRunBy : Exits → Program → Failure → Type 0
CannotRunBy exits.Machine image f = ⊥
CannotRunBy exits.Linux image f = (f ≡ FirstVersion) × (is_first image.version ≡ true)

-- why a file of this form has no image that is run by this rule
abbrev pub FailsImage : Exits → ImageForm → (bytes : List ℕ) → Failure → Type 0
FailsImage exits form bytes f =
    HasNoImage form bytes f ⊎ ((own : Program) × IsImageOf form bytes own × CannotRunBy exits own f)

-- the run of an image may meet a step that may not be
abbrev pub CannotRun : RunOptions → Program → Failure → Type 0
CannotRun options image (Run e) = (e ≡ fault.Broken) × MeetsBroken image (outside_by options.order) options.steps
CannotRun options image f = ⊥

-- why an image isn't run
abbrev pub FailsRun : Exits → ImageForm → RunOptions → (bytes : List ℕ) → Failure → Type 0
FailsRun exits form options bytes f =
    FailsImage exits form bytes f ⊎ ((image : Program) × IsImageBy exits form bytes image × CannotRun options image f)

-- a schedule has too many bytes, so that none of its entries is read
abbrev pub IsTooLong : (schedule : List ℕ) → (number : ℕ) → Type 0
IsTooLong schedule number = (number ≡ 0) × (most_bytes < length schedule)

-- why an image isn't run by a schedule to its end: of its entries this one is the first that is refused, or whose step may
-- not be
abbrev pub FailsTurns : Program → (schedule : List ℕ) → Failure → Type 0
FailsTurns image schedule (Schedule n) = IsTooLong schedule n ⊎ FailsAt image (turns_in schedule) (follow.BadEntry n)
FailsTurns image schedule (Broken n) = FailsAt image (turns_in schedule) (follow.Broken n)
FailsTurns image schedule f = ⊥

-- lines are those of no log of at most so many steps
abbrev pub FailsLines : (most : ℕ) → (lines : List ℕ) → Failure → Type 0
FailsLines most lines (LogBytes n) = (n ≡ log_bytes most) × (log_bytes most < length lines)
FailsLines most lines (LogLine n) = IsBadLine lines n
FailsLines most lines (LogSteps n) = (n ≡ most) × HasManySteps lines most
FailsLines most lines f = ⊥

-- an image can't follow a log
abbrev pub CannotTakeLog : Program → List Entry → Failure → Type 0
CannotTakeLog image entries (LogEntry n) = IsBadLogEntry image entries n
CannotTakeLog image entries f = ⊥

-- why an image isn't run by the log that these lines are
abbrev pub FailsLog : Program → (most : ℕ) → (lines : List ℕ) → Failure → Type 0
FailsLog image most lines f =
    FailsLines most lines f ⊎ ((entries : List Entry) × IsLogText lines entries × CannotTakeLog image entries f)

-- by what is named
abbrev pub FailsBy : ReplayedBy → Program → (second : List ℕ) → Failure → Type 0
FailsBy (replayed.Schedule name log) image second f = FailsTurns image second f
FailsBy (replayed.Log name steps) image second f = FailsLog image steps second f

-- the same of the image in a file
abbrev pub FailsFollowing : Exits → ImageForm → ReplayedBy → (bytes second : List ℕ) → Failure → Type 0
FailsFollowing exits form by bytes second f =
    FailsImage exits form bytes f ⊎ ((image : Program) × IsImageBy exits form bytes image × FailsBy by image second f)

-- why a text's code for this version isn't run by a schedule to its end: no step of it may not be
abbrev pub FailsTextTurns : ImageVersion → (text schedule : List ℕ) → Failure → Type 0
FailsTextTurns version text schedule (Schedule n) =
    IsTooLong schedule n ⊎ IsBadEntry version text (turns_in schedule) n
FailsTextTurns version text schedule f = ⊥

-- why lines are no log of a text's code, of at most so many steps; with what is so of an entry that is the first that is
-- refused
abbrev pub FailsTextLog : (IsBad : ℕ → Type 0) → (most : ℕ) → (text lines : List ℕ) → Failure → Type 0
FailsTextLog IsBad most text lines (LogBytes n) = (n ≡ log_bytes most) × (log_bytes most < length lines)
FailsTextLog IsBad most text lines (LogLine n) = HasBadLine text lines n
FailsTextLog IsBad most text lines (LogSteps n) = (n ≡ most) × HasLongLog text lines most
FailsTextLog IsBad most text lines (LogEntry n) = IsBad n
FailsTextLog IsBad most text lines f = ⊥

-- why a text's code for this version isn't run again, by what is named
abbrev pub FailsReplay : ImageVersion → ReplayedBy → (text second : List ℕ) → Failure → Type 0
FailsReplay version (replayed.Schedule name log) text second f = FailsTextTurns version text second f
FailsReplay version (replayed.Log name steps) text second f =
    FailsTextLog (CannotFollow version text second) steps text second f

-- why its run isn't explained: one that is made needs memory alone
abbrev pub FailsExplanation : ImageVersion → ExplainedBy → (text second : List ℕ) → Failure → Type 0
FailsExplanation version (explained.Order steps) text second f = ⊥
FailsExplanation version (explained.Seed steps seed strays kills) text second f = ⊥
FailsExplanation version (explained.Schedule name) text second f = FailsTextTurns version text second f
FailsExplanation version (explained.Log name steps) text second f =
    FailsTextLog (HasBadEntry version text second) steps text second f

-- the run of a text's code by a schedule doesn't fail
pub record RunsWithoutFailure (version : ImageVersion) (text schedule : List ℕ) : Type 0 where
  pub program : ProgramOf
  pub accepts : AcceptsText text program
  pub none : HasNoFailure (code_as version program) (turns_in schedule)

-- why a schedule isn't made shorter
abbrev pub FailsShrinking : ImageVersion → (text second : List ℕ) → Failure → Type 0
FailsShrinking version text second NoFailure = RunsWithoutFailure version text second
FailsShrinking version text second f = FailsTextTurns version text second f
