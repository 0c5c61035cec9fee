-- What a command has done, of the bytes of the file that it is about, and how the program ends.
use Rattle.std.specs.Prelude.{codes, ◌≡◌, ◌≢◌, ◌⊎◌, ◌++◌, ℕ, Bool, true, false, List, [], Option, Some, is_some}
use Rattle.clap.specs.Words.{takes}
use Rattle.words.specs.declared.version.ImageVersion.TheVariants.{Linux}
use Rattle.scanner.specs.declared.refusal.Refusal.{Refusal}
use Rattle.scanner.specs.Refusals.{refusal_text}
use Rattle.assembler.specs.Listings.{RefusesText as RefusesAssembly}
use Rattle.assembler.specs.Refusals.{refusal_text as assembly_refusal_text}
use Rattle.assembler.specs.declared.refusal.AssemblyRefusal.{AssemblyRefusal}
use Rattle.log_text.specs.LogLines.{line_feed}
use Rattle.commandline.specs.CommandLine.{AsksFor, command_line, version_by}
use Rattle.commandline.specs.declared.job.Job.{Job}
use Rattle.commandline.specs.declared.job.Job.TheVariants.{Check, Compile, List as ListImage, Run, Exec, Replay, Explain, Emit, Explore}
use Rattle.commandline.specs.declared.job.Job.TheVariants.{Assemble, Fmt, Follow, Search, Shrink, Schedule as ScheduleLog, Retell}
use Rattle.compiler.specs.Accepts.{RefusesProgram, RefusesTextAs}
use Rattle.answers.specs.declared.answer.Answer.{Answer}
use Rattle.answers.specs.declared.failure.Failure.{Failure}
use Rattle.answers.specs.declared.failure.Failure.TheVariants.{Memory as NoMemory}
use Rattle.answers.specs.declared.failure.NoAnswer.{NoAnswer}
use Rattle.answers.specs.declared.failure.NoAnswer.TheVariants as left
use Rattle.answers.specs.declared.status.Status.{Status}
use Rattle.answers.specs.declared.status.Status.TheVariants.{Done, Refused, Usage, Stuck, Limit, Memory, Failed, Found}
use Rattle.devices.specs.Failures.{HaveFailed}
use Rattle.devices.specs.Files.{IsOfFile, IsPut}
use Rattle.devices.specs.Writing.{HasAll}
use Rattle.devices.specs.declared.counted.Counted.{Counted}
use Rattle.devices.specs.declared.failures.FileFailures.{FileFailures}
use Rattle.answers.specs.Answers.{ArePut, HasMetFailure, IsTold, IsToldOrMemory}
use Rattle.answers.specs.Asked.{IsReplayedAs, IsRunAs, log_beside}
use Rattle.answers.specs.Causes.{FailsExplanation, FailsFollowing, FailsImage, FailsLines, FailsListing, FailsReplay, FailsRun}
use Rattle.answers.specs.Causes.{FailsShrinking}
use Rattle.answers.specs.Done.{HasAssembled, HasChecked, HasCompiled, HasEmitted, HasExecuted, HasExplained, HasListed, HasRun}
use Rattle.answers.specs.Done.{RefusesListing}
use Rattle.mesamon.specs.Asked.{AreRead, asks_for_hints}
use Rattle.answers.specs.Exploring.{HasExplored}
use Rattle.answers.specs.Formatting.{HasLaidOut}
use Rattle.answers.specs.Retelling.{FailsRetelling, HasRetold}
use Rattle.answers.specs.Scheduling.{HasScheduled}
use Rattle.answers.specs.Shrinking.{HasShrunk}
use Rattle.answers.specs.Images.{HasFollowed, HasSearched, UnassemblesAs}
use Rattle.source_layout.specs.Laid.{RefusesUnit}
use Rattle.mesamon.specs.Overwriting.{overwrites}

-- the job was done, with these bytes in the file that it is about, and in the second one that it names: what it asks for is
-- what is told, and what its files get
abbrev pub HasDone : Job → (bytes second : List ℕ) → Answer → Type 0
HasDone (Check file hints) bytes second a = HasChecked bytes a
HasDone (Compile file out workers version hints) bytes second a = HasCompiled version out bytes a
HasDone (ListImage image linux source hints) bytes second a = HasListed linux (is_some source) bytes second a
HasDone (Run file exits options page hints) bytes second a =
    HasRun (IsRunAs (version_by exits) options) options.trace options.log page bytes a
HasDone (Exec image form exits options) bytes second a = HasExecuted exits form options bytes a
HasDone (Replay file exits by trace page hints) bytes second a =
    HasRun (IsReplayedAs (version_by exits) by second) trace (log_beside by) page bytes a
HasDone (Explain file exits by chart timeline page places hints) bytes second a =
    HasExplained (version_by exits) by second places chart timeline page bytes a
HasDone (Retell file exits actions chart timeline page places hints) bytes second a =
    HasRetold second places chart timeline page bytes a
HasDone (Emit file out hints) bytes second a = HasEmitted out bytes a
HasDone (Explore file exits states strays kills ends chart timeline page schedule actions places hints) bytes second a =
    HasExplored (version_by exits) (record { strays = strays; kills = kills }) (record { ends = ends }) states places chart
    timeline page schedule actions bytes a
HasDone (Search file form exits states strays kills files hints) bytes second a =
    HasSearched exits form (record { strays = strays; kills = kills }) states files bytes a
HasDone (Follow file form exits by trace hints) bytes second a = HasFollowed exits form by trace bytes second a
HasDone (Assemble file out hints) bytes second a = HasAssembled out bytes a
HasDone (Fmt file check hints) bytes second a = HasLaidOut check bytes a
HasDone (ScheduleLog log out steps hints) bytes second a = HasScheduled steps out bytes a
HasDone (Shrink file exits schedule out hints) bytes second a = HasShrunk (version_by exits) out bytes second a

-- this is the refusal of the text that the job is about: with these bytes in its file, or for a listing in the source's
abbrev pub RefusesJob : Job → (bytes second : List ℕ) → Refusal → Type 0
RefusesJob (Check file hints) bytes second e = RefusesProgram bytes e
RefusesJob (Compile file out workers version hints) bytes second e = RefusesTextAs version bytes e
RefusesJob (ListImage image linux source hints) bytes second e = RefusesListing linux bytes second e
RefusesJob (Exec image form exits options) bytes second e = ⊥
RefusesJob (Run file exits options page hints) bytes second e = RefusesTextAs (version_by exits) bytes e
RefusesJob (Replay file exits by trace page hints) bytes second e = RefusesTextAs (version_by exits) bytes e
RefusesJob (Explain file exits by chart timeline page places hints) bytes second e =
    RefusesTextAs (version_by exits) bytes e
RefusesJob (Retell file exits actions chart timeline page places hints) bytes second e =
    RefusesTextAs (version_by exits) bytes e
RefusesJob (Emit file out hints) bytes second e = RefusesTextAs Linux bytes e
RefusesJob (Explore file exits states strays kills ends chart timeline page schedule actions places hints) bytes second e =
    RefusesTextAs (version_by exits) bytes e
RefusesJob (Search file form exits states strays kills files hints) bytes second e = ⊥
RefusesJob (Follow file form exits by trace hints) bytes second e = ⊥
RefusesJob (Assemble file out hints) bytes second e = ⊥
RefusesJob (Fmt file check hints) bytes second e = RefusesUnit bytes e
RefusesJob (ScheduleLog log out steps hints) bytes second e = ⊥
RefusesJob (Shrink file exits schedule out hints) bytes second e = RefusesTextAs (version_by exits) bytes e

-- this is the refusal of the assembly text that the job is about
abbrev pub UnassemblesJob : Job → (bytes : List ℕ) → AssemblyRefusal → Type 0
UnassemblesJob (Check file hints) bytes e = ⊥
UnassemblesJob (Compile file out workers version hints) bytes e = ⊥
UnassemblesJob (ListImage image linux source hints) bytes e = ⊥
UnassemblesJob (Exec image form exits options) bytes e = UnassemblesAs form bytes e
UnassemblesJob (Run file exits options page hints) bytes e = ⊥
UnassemblesJob (Replay file exits by trace page hints) bytes e = ⊥
UnassemblesJob (Explain file exits by chart timeline page places hints) bytes e = ⊥
UnassemblesJob (Retell file exits actions chart timeline page places hints) bytes e = ⊥
UnassemblesJob (Emit file out hints) bytes e = ⊥
UnassemblesJob (Explore file exits states strays kills ends chart timeline page schedule actions places hints) bytes e = ⊥
UnassemblesJob (Search file form exits states strays kills files hints) bytes e = UnassemblesAs form bytes e
UnassemblesJob (Follow file form exits by trace hints) bytes e = UnassemblesAs form bytes e
UnassemblesJob (Assemble file out hints) bytes e = RefusesAssembly bytes e
UnassemblesJob (Fmt file check hints) bytes e = ⊥
UnassemblesJob (ScheduleLog log out steps hints) bytes e = ⊥
UnassemblesJob (Shrink file exits schedule out hints) bytes e = ⊥

-- why a job fails, where that is no want of memory: with these bytes. A text that is checked, compiled, run, searched or
-- laid out never does
abbrev pub FailsJob : Job → (bytes second : List ℕ) → Failure → Type 0
FailsJob (Check file hints) bytes second f = ⊥
FailsJob (Compile file out workers version hints) bytes second f = ⊥
FailsJob (ListImage image linux source hints) bytes second f = FailsListing linux source bytes second f
FailsJob (Run file exits options page hints) bytes second f = ⊥
FailsJob (Exec image form exits options) bytes second f = FailsRun exits form options bytes f
FailsJob (Replay file exits by trace page hints) bytes second f = FailsReplay (version_by exits) by bytes second f
FailsJob (Explain file exits by chart timeline page places hints) bytes second f =
    FailsExplanation (version_by exits) by bytes second f
FailsJob (Retell file exits actions chart timeline page places hints) bytes second f =
    FailsRetelling bytes second f
FailsJob (Emit file out hints) bytes second f = ⊥
FailsJob (Explore file exits states strays kills ends chart timeline page schedule actions places hints) bytes second f = ⊥
FailsJob (Search file form exits states strays kills files hints) bytes second f = FailsImage exits form bytes f
FailsJob (Follow file form exits by trace hints) bytes second f = FailsFollowing exits form by bytes second f
FailsJob (Assemble file out hints) bytes second f = ⊥
FailsJob (Fmt file check hints) bytes second f = ⊥
FailsJob (ScheduleLog log out steps hints) bytes second f = FailsLines steps bytes f
FailsJob (Shrink file exits schedule out hints) bytes second f = FailsShrinking (version_by exits) bytes second f

-- the job was done on bytes that were read of its files
pub record HasDoneSome (IsOf : (most : ℕ) → List ℕ → Type 0) (job : Job) (a : Answer) : Type 0 where
  pub bytes : List ℕ
  pub second : List ℕ
  pub read : AreRead IsOf job bytes second
  pub done : HasDone job bytes second a

-- it is refused on bytes that were read of its files
pub record RefusesSome (IsOf : (most : ℕ) → List ℕ → Type 0) (job : Job) (e : Refusal) : Type 0 where
  pub bytes : List ℕ
  pub second : List ℕ
  pub read : AreRead IsOf job bytes second
  pub refuses : RefusesJob job bytes second e

-- the same of an assembly text
pub record UnassemblesSome (IsOf : (most : ℕ) → List ℕ → Type 0) (job : Job) (e : AssemblyRefusal) : Type 0 where
  pub bytes : List ℕ
  pub second : List ℕ
  pub read : AreRead IsOf job bytes second
  pub refuses : UnassemblesJob job bytes e

-- it fails on bytes that were read of its files
pub record FailsSome (IsOf : (most : ℕ) → List ℕ → Type 0) (job : Job) (f : Failure) : Type 0 where
  pub bytes : List ℕ
  pub second : List ℕ
  pub read : AreRead IsOf job bytes second
  pub fails : FailsJob job bytes second f

-- what is known of the devices of a program: that its files had bytes, of so many at most; that a file has got bytes; that
-- one couldn't be opened, read or written; that standard output, or standard error, has got bytes and no others; and that a
-- call of one of those two failed
pub record Devices : Type 1 where
  pub Had : (most : ℕ) → List ℕ → Type 0
  pub Got : List ℕ → Type 0
  pub Misses : Type 0
  pub Wrote : List ℕ → Type 0
  pub Told : List ℕ → Type 0
  pub Fails : Type 0

-- by what is known of the bytes of its files, of those that failed, of its standard output and of its standard error
abbrev pub devices_by : {F O E : Type 0} → (remaining contents : F → Option (List ℕ)) (failures : FileFailures)
    (printed : O → Option (List ℕ)) (told : E → Option (List ℕ)) (output output' : Counted O) (errors errors' : Counted E)
    → Devices
devices_by remaining contents failures printed told output output' errors errors' = record {
  Had = IsOfFile remaining;
  Got = IsPut contents;
  Misses = HaveFailed failures;
  Wrote = HasAll printed output output';
  Told = HasAll told errors errors';
  Fails = HasMetFailure output' ⊎ HasMetFailure errors';
}

-- the job that the words ask for was done on the bytes that were read, and ended so; its files have got what they are to
-- get; what it tells was written, each byte of it, and to standard error hints behind that, where the job asks for hints
pub record HasAnswered (words : List (List ℕ)) (on : Devices) (status : Status) : Type 0 where
  pub job : Job
  pub asks : AsksFor words job
  pub apart : overwrites job ≡ false
  pub answer : Answer
  pub done : HasDoneSome on.Had job answer
  pub ended : answer.status ≡ status
  pub put : ArePut on.Got answer.files
  pub hints : List ℕ
  pub unasked : asks_for_hints job ≡ false → hints ≡ []
  pub wrote : on.Wrote answer.output.items
  pub told : on.Told (answer.account.items ++ hints)

-- the text that the words ask about, of the bytes that were read, is refused, and the line of its refusal was written to
-- standard error, with hints behind it where the job asks for hints; to standard output nothing was
pub record IsRefused (words : List (List ℕ)) (on : Devices) : Type 0 where
  pub job : Job
  pub asks : AsksFor words job
  pub apart : overwrites job ≡ false
  pub refusal : Refusal
  pub refuses : RefusesSome on.Had job refusal
  pub hints : List ℕ
  pub unasked : asks_for_hints job ≡ false → hints ≡ []
  pub wrote : on.Wrote []
  pub told : on.Told ((refusal_text refusal ++ line_feed) ++ hints)

-- the same of an assembly text
pub record IsUnassembled (words : List (List ℕ)) (on : Devices) : Type 0 where
  pub job : Job
  pub asks : AsksFor words job
  pub apart : overwrites job ≡ false
  pub refusal : AssemblyRefusal
  pub refuses : UnassemblesSome on.Had job refusal
  pub hints : List ℕ
  pub unasked : asks_for_hints job ≡ false → hints ≡ []
  pub wrote : on.Wrote []
  pub told : on.Told ((assembly_refusal_text refusal ++ line_feed) ++ hints)

-- the words ask for no job, or for one that would write a file that it reads, or one file twice
abbrev pub IsNoCommand : List (List ℕ) → Type 0
IsNoCommand words =
    ((job : Job) → takes command_line words ≡ true → AsksFor words job → ⊥)
    ⊎ ((job : Job) × AsksFor words job × (overwrites job ≡ true))

-- this failure, which is no want of memory, was named, with hints behind its line
abbrev pub IsNamed : (Told : List ℕ → Type 0) (hints : List ℕ) → Failure → Type 0
IsNamed Told hints f = (f ≢ NoMemory) × ((name : List ℕ) × Told ((name ++ line_feed) ++ hints))

abbrev pub IsToldFailed : (Told : List ℕ → Type 0) (Fails : Type 0) (hints : List ℕ) → Failure → Status → Type 0
IsToldFailed Told Fails hints f status = IsToldOrMemory Told (IsNamed Told hints f) Fails Failed status

-- why a job has no answer was told, with hints behind it: a refusal by its line, and what failed by its name
abbrev pub IsToldLeft : (Told : List ℕ → Type 0) (Fails : Type 0) (hints : List ℕ) → NoAnswer → Status → Type 0
IsToldLeft Told Fails hints (left.Refused e) status =
    IsToldOrMemory Told (Told ((refusal_text e ++ line_feed) ++ hints)) Fails Refused status
IsToldLeft Told Fails hints (left.Unassembled e) status =
    IsToldOrMemory Told (Told ((assembly_refusal_text e ++ line_feed) ++ hints)) Fails Refused status
IsToldLeft Told Fails hints (left.Failed f) status = IsToldFailed Told Fails hints f status

-- the job that the words ask for failed: a file couldn't be opened, read or written, or it fails on the bytes that were read.
-- What failed was named to standard error, with hints behind it where the job asks for hints; to standard output nothing was
-- written
pub record HasFailed (words : List (List ℕ)) (on : Devices) : Type 0 where
  pub job : Job
  pub asks : AsksFor words job
  pub apart : overwrites job ≡ false
  pub cause : on.Misses ⊎ ((failure : Failure) × FailsSome on.Had job failure)
  pub name : List ℕ
  pub hints : List ℕ
  pub unasked : asks_for_hints job ≡ false → hints ≡ []
  pub wrote : on.Wrote []
  pub told : on.Told ((name ++ line_feed) ++ hints)

-- what is so at the end of a job that was done: its files have got their bytes, and what it tells was told with hints
-- behind it where they are asked for; or a file was not written, and that was told
abbrev pub FinishesSo : (on : Devices) (asked : Bool) → Answer → Status → Type 0
FinishesSo on asked a status =
    (ArePut on.Got a.files × (hints : List ℕ) × (asked ≡ false → hints ≡ [])
    × IsTold (on.Wrote a.output.items × on.Told (a.account.items ++ hints)) on.Fails a.status status)
    ⊎ (on.Wrote [] × on.Misses × (f : Failure) × (hints : List ℕ) × (asked ≡ false → hints ≡ [])
    × IsToldFailed on.Told on.Fails hints f status)

-- what is so of a program that ended with this status: where it failed, one of its two writers did, or its job
abbrev pub EndsSo : (words : List (List ℕ)) (on : Devices) → Status → Type 0
EndsSo words on Done = HasAnswered words on Done
EndsSo words on Stuck = HasAnswered words on Stuck
EndsSo words on Limit = HasAnswered words on Limit
EndsSo words on Found = HasAnswered words on Found
EndsSo words on Refused = IsRefused words on ⊎ IsUnassembled words on
EndsSo words on Usage = IsNoCommand words × on.Wrote []
EndsSo words on Memory = on.Wrote [] × on.Told (codes "memory\n")
EndsSo words on Failed = on.Fails ⊎ HasFailed words on
