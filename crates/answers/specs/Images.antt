-- What is done of an image: it is run by a schedule or a log, or all its schedules are searched.
use Rattle.std.proofs.Common.{Bor}
use Rattle.std.specs.Prelude.{ℕ, ◌≡◌, ◌≤◌, ◌++◌, Bool, true, false, List, [], Option, Some, None, codes, if◌then◌else◌, nat_lt, ⊤}
use Rattle.std.specs.Fmt.{decimal}
use Rattle.std.specs.List.{flat_map}
use Rattle.words.specs.declared.version.ImageVersion.{ImageVersion}
use Rattle.words.specs.declared.version.ImageVersion.TheVariants.{One, Two, Linux}
use Rattle.isa.specs.Programs.{Program}
use Rattle.isa.specs.Spelling.{HasByte, IsSpelled, spelling}
use Rattle.assembler.specs.Listings.{IsAssembled, RefusesText}
use Rattle.assembler.specs.declared.refusal.AssemblyRefusal.{AssemblyRefusal}
use Rattle.commandline.specs.declared.options.Exits.{Exits}
use Rattle.commandline.specs.declared.options.Exits.TheVariants as exits
use Rattle.commandline.specs.declared.options.ImageForm.{ImageForm}
use Rattle.commandline.specs.declared.options.ImageForm.TheVariants as form
use Rattle.commandline.specs.declared.options.ReplayedBy.{ReplayedBy}
use Rattle.commandline.specs.declared.options.SearchFiles.{SearchFiles}
use Rattle.commandline.specs.declared.options.ReplayedBy.TheVariants.{Schedule as BySchedule, Log as ByLog}
use Rattle.image_search.specs.Ends.{HasSearched as IsSearchOf}
use Rattle.image_search.specs.Never.{NeverBreaks, NeverFails, NeverStuck}
use Rattle.image_search.specs.Sleeping.{HasSlept}
use Rattle.image_search.specs.declared.ending.Ending.{Ending}
use Rattle.image_search.specs.declared.ending.Ending.TheVariants as ending
use Rattle.image_search.specs.declared.ending.ImageExploration.{ImageExploration}
use Rattle.image_search.specs.declared.ending.Sleeping.{Sleeping}
use Rattle.image_search.specs.declared.ending.Sleeping.TheVariants.{Unsought, Never, ForGood, Unknown}
use Rattle.image_states.specs.Nexts.{may_of}
use Rattle.image_states.specs.declared.outside.Outside.{Outside}
use Rattle.log_text.specs.Spelled.{IsLogText}
use Rattle.machine.specs.declared.event.Entry.{Entry}
use Rattle.runner.specs.LogSchedules.{IsFollowedLog}
use Rattle.runner.specs.Logs.{cost}
use Rattle.runner.specs.Schedules.{IsFollowed}
use Rattle.runner.specs.declared.report.Report.{Report}
use Rattle.runner.specs.declared.schedule.Turn.{Turn}
use Rattle.answers.specs.Answers.{Put, TellsReport, name_of, put_of}
use Rattle.answers.specs.Asked.{log_beside}
use Rattle.answers.specs.Exploring.{states_line}
use Rattle.answers.specs.ScheduleText.{schedule_text}
use Rattle.answers.specs.Turns.{turns_in}
use Rattle.answers.specs.declared.answer.Answer.{Answer}
use Rattle.answers.specs.declared.answer.OutFiles.{OutFiles}
use Rattle.answers.specs.declared.status.Status.{Status}
use Rattle.answers.specs.declared.status.Status.TheVariants.{Done, Stuck, Limit, Found}

-- the image in a file of this form
abbrev pub IsImageOf : ImageForm → List ℕ → Program → Type 0
IsImageOf form.Assembly text p = IsAssembled text p
IsImageOf form.Image bytes p = HasByte p.version × IsSpelled p × (spelling p ≡ bytes)

-- the first version, whose images aren't run by Linux's rule of exits
abbrev pub is_first : ImageVersion → Bool
is_first One = true
is_first Two = false
is_first Linux = false

-- an image as it is run by this rule: by Linux's with the version that has it
abbrev pub IsRunBy : Exits → Program → Program → Type 0
IsRunBy exits.Machine p q = q ≡ p
IsRunBy exits.Linux p q = (is_first p.version ≡ false) × (q ≡ record p { version = Linux })

-- the image in a file of this form, as it is run by this rule
pub record IsImageBy (exits : Exits) (form : ImageForm) (bytes : List ℕ) (image : Program) : Type 0 where
  pub own : Program
  pub is : IsImageOf form bytes own
  pub by : IsRunBy exits own image

-- the refusal of an assembly text in a file of this form
abbrev pub UnassemblesAs : ImageForm → List ℕ → AssemblyRefusal → Type 0
UnassemblesAs form.Assembly text e = RefusesText text e
UnassemblesAs form.Image bytes e = ⊥

-- the report of the image, run by the threads and counts of the log of at most so many steps that the lines are
pub record IsFollowedByLines (image : Program) (lines : List ℕ) (most : ℕ) (report : Report) : Type 0 where
  pub entries : List Entry
  pub reads : IsLogText lines entries
  pub few : cost entries ≤ most
  pub followed : IsFollowedLog image entries report

-- the run of the image, by what is named, with these bytes
abbrev pub IsFollowedAs : ReplayedBy → Program → (second : List ℕ) → Report → Type 0
IsFollowedAs (BySchedule name log) image second r = IsFollowed image (turns_in second) r
IsFollowedAs (ByLog name steps) image second r = IsFollowedByLines image second steps r

-- the image was run so, and that was told and logged
pub record FollowsImage (image : Program) (by : ReplayedBy) (trace : Bool) (second : List ℕ) (a : Answer) : Type 0 where
  pub report : Report
  pub followed : IsFollowedAs by image second report
  pub tells : TellsReport report trace (log_beside by) None a

-- the same of the image in a file, by this rule of exits
pub record HasFollowed (exits : Exits) (form : ImageForm) (by : ReplayedBy) (trace : Bool) (bytes second : List ℕ)
    (a : Answer)
    : Type 0
  where
    pub image : Program
    pub is : IsImageBy exits form bytes image
    pub follows : FollowsImage image by trace second a

-- how a complete search ended
abbrev pub sleeping_status : Sleeping → Status
sleeping_status Unsought = Done
sleeping_status Never = Done
sleeping_status (ForGood turns threads) = Found
sleeping_status (Unknown why) = Done

-- how a search ended
abbrev pub search_status : Sleeping → Ending → Status
search_status sleeping ending.Complete = sleeping_status sleeping
search_status sleeping (ending.Stuck turns) = Stuck
search_status sleeping (ending.Failed turns) = Found
search_status sleeping (ending.Broken turns) = Found
search_status sleeping (ending.Bounded bound) = Limit

-- the line of a complete search in which no thread fails
abbrev pub none_fails : Outside → List ℕ
none_fails may =
    if nat_lt 0 may.kills then codes "no thread fails but by a kill\n" else codes "no thread fails\n"

-- whether more may be to be found
abbrev pub is_whole : Ending → Bool
is_whole ending.Complete = true
is_whole (ending.Stuck turns) = true
is_whole (ending.Failed turns) = true
is_whole (ending.Broken turns) = true
is_whole (ending.Bounded bound) = false

-- the line of a complete search in which no thread sleeps for good, where that is known
abbrev pub none_sleeps : Sleeping → List ℕ
none_sleeps Unsought = []
none_sleeps Never = codes "no thread sleeps for good\n"
none_sleeps (ForGood turns threads) = []
none_sleeps (Unknown why) = []

-- the line of threads that sleep for good
abbrev pub thread_word : ℕ → List ℕ
thread_word t = codes " " ++ decimal t

abbrev pub sleepers_line : List ℕ → List ℕ
sleepers_line threads = codes "sleeps for good:" ++ (flat_map thread_word threads ++ codes "\n")

abbrev pub sleeping_lines : Sleeping → List ℕ
sleeping_lines Unsought = []
sleeping_lines Never = []
sleeping_lines (ForGood turns threads) = sleepers_line threads.items
sleeping_lines (Unknown why) = []

-- what a complete search tells of threads that sleep for good, and of steps that may not be
abbrev pub later_lines : Sleeping → List ℕ
later_lines sleeping = none_sleeps sleeping ++ (codes "no step is broken\n" ++ sleeping_lines sleeping)

-- what is told behind the line of how many states were kept
abbrev pub ending_lines : Outside → Sleeping → Ending → List ℕ
ending_lines may sleeping ending.Complete =
    codes "no schedule is stuck\n" ++ (none_fails may ++ later_lines sleeping)
ending_lines may sleeping (ending.Stuck turns) = codes "stuck\n"
ending_lines may sleeping (ending.Failed turns) = codes "failed\n"
ending_lines may sleeping (ending.Broken turns) = codes "broken\n"
ending_lines may sleeping (ending.Bounded bound) = []

abbrev pub search_lines : Outside → ImageExploration → List ℕ
search_lines may e = states_line e.states (is_whole e.ending) ++ ending_lines may e.sleeping e.ending

-- the file that the schedule of what was found is written to
abbrev pub schedule_put : Option (Bor (List ℕ)) → List Turn → Option Put
schedule_put None turns = None
schedule_put (Some name) turns = Some (name, schedule_text turns)

abbrev pub sleeping_put : Option (Bor (List ℕ)) → Sleeping → Option Put
sleeping_put name Unsought = None
sleeping_put name Never = None
sleeping_put name (ForGood turns threads) = schedule_put name turns.items
sleeping_put name (Unknown why) = None

abbrev pub found_put : Option (Bor (List ℕ)) → Sleeping → Ending → Option Put
found_put name sleeping ending.Complete = sleeping_put name sleeping
found_put name sleeping (ending.Stuck turns) = schedule_put name turns.items
found_put name sleeping (ending.Failed turns) = schedule_put name turns.items
found_put name sleeping (ending.Broken turns) = schedule_put name turns.items
found_put name sleeping (ending.Bounded bound) = None

-- whether a run was found
abbrev pub finds_sleepers : Sleeping → Bool
finds_sleepers Unsought = false
finds_sleepers Never = false
finds_sleepers (ForGood turns threads) = true
finds_sleepers (Unknown why) = false

abbrev pub finds_run : Sleeping → Ending → Bool
finds_run sleeping ending.Complete = finds_sleepers sleeping
finds_run sleeping (ending.Stuck turns) = true
finds_run sleeping (ending.Failed turns) = true
finds_run sleeping (ending.Broken turns) = true
finds_run sleeping (ending.Bounded bound) = false

-- the name of a file that is written where a run was found
abbrev pub name_if : Bool → Option (Bor (List ℕ)) → Option (Bor (List ℕ))
name_if true name = name
name_if false name = None

-- a picture and a timeline of the run that was found, and its schedule, are written to the files of these names
abbrev pub AreShown : SearchFiles → Sleeping → Ending → OutFiles → Type 0
AreShown wanted sleeping ending files =
    (name_of files.out ≡ name_if (finds_run sleeping ending) wanted.chart)
    × (name_of files.timeline ≡ name_if (finds_run sleeping ending) wanted.timeline) × (name_of files.page ≡ None)
    × (put_of files.schedule ≡ found_put wanted.schedule sleeping ending) × (put_of files.actions ≡ None)

-- what a complete search says of all runs of the image in pieces, over any number of buckets
abbrev pub SaysNever : Program → Outside → Ending → Type 0
SaysNever p may ending.Complete = NeverStuck p (may_of may) × NeverFails p (may_of may) × NeverBreaks p (may_of may)
SaysNever p may (ending.Stuck turns) = ⊤
SaysNever p may (ending.Failed turns) = ⊤
SaysNever p may (ending.Broken turns) = ⊤
SaysNever p may (ending.Bounded bound) = ⊤

-- with kills, that a thread's exit wakes by this machine's rule, where it does
abbrev pub machine_line : Outside → List ℕ
machine_line may = if nat_lt 0 may.kills then codes "by this machine's exit; Linux wakes less\n" else []

abbrev pub exit_line : Exits → Outside → List ℕ
exit_line exits.Machine may = machine_line may
exit_line exits.Linux may = []

-- what was found is told: these lines, and more behind them; it is shown in the files of these names
pub record TellsSearch (exits : Exits) (may : Outside) (wanted : SearchFiles) (e : ImageExploration) (a : Answer) : Type 0
  where
    pub ended : a.status ≡ search_status e.sleeping e.ending
    pub output : (more : List ℕ) × (a.output.items ≡ search_lines may e ++ more)
    pub account : a.account.items ≡ exit_line exits may
    pub files : AreShown wanted e.sleeping e.ending a.files

-- all schedules of the image were searched, keeping so many states at most, and that was told
pub record SearchesImage (exits : Exits) (image : Program) (may : Outside) (most : ℕ) (wanted : SearchFiles) (a : Answer)
    : Type 0
  where
    pub exploration : ImageExploration
    pub searched : IsSearchOf image (may_of may) most exploration
    pub never : SaysNever image may exploration.ending
    pub slept : HasSlept image (may_of may) exploration.ending exploration.sleeping
    pub tells : TellsSearch exits may wanted exploration a

-- the same of the image in a file, by this rule of exits
pub record HasSearched (exits : Exits) (form : ImageForm) (may : Outside) (most : ℕ) (wanted : SearchFiles)
    (bytes : List ℕ) (a : Answer)
    : Type 0
  where
    pub image : Program
    pub is : IsImageBy exits form bytes image
    pub searches : SearchesImage exits image may most wanted a
