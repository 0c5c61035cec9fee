-- The commands of the program, and which job the words of a command line ask for. How words are read as a command's
-- arguments is the definition of the crate clap (`App`, `subcommand_of`).
use Rattle.std.specs.Prelude.{◌≡◌, ◌<◌, ◌≤◌, ◌^◌, ℕ, Bool, true, false, List, [], ◌∷◌, Option, Some, None, ◌⊎◌, codes, ⊤}
use Rattle.std.specs.Option.{option_map_or}
use Rattle.std.specs.Prelude.{find, option_and_then, option_map}
use Rattle.std.specs.List.{list_any}
use Rattle.std.specs.Str.{bytes_eq}
use Rattle.std.specs.Str.Parse.{IsNumeral, digits_value, without_leading_plus}
use Rattle.clap.specs.Words.{App, Row, Rule, Text, app_of, first_of, new_app, new_rule, one_of, with_rule, with_subcommand}
use Rattle.clap.specs.Words.{fault_of, subcommand_of}
use Rattle.clap.specs.declared.builder.action.ArgAction.TheVariants.{SetTrue}
use Rattle.clap.specs.declared.builder.value_parser.ValueParser.TheVariants.{Unsigned}
use Rattle.clap.specs.declared.parser.matches.ValueSource.{ValueSource}
use Rattle.clap.specs.declared.parser.matches.ValueSource.TheVariants.{CommandLine}
use Rattle.words.specs.declared.version.ImageVersion.{ImageVersion}
use Rattle.words.specs.declared.version.ImageVersion.TheVariants.{One, Two, Linux}
use Rattle.clap.specs.declared.builder.command.Command.{Command}
use Rattle.clap.specs.declared.builder.command.Command.TheViews.{out-Command as fields_of}
use Rattle.commandline.specs.declared.arguments.Argument.{Argument}
use Rattle.commandline.specs.declared.arguments.Kind.{Kind}
use Rattle.commandline.specs.declared.arguments.Kind.TheVariants.{Positional, Optional, Flag, Valued, Number}
use Rattle.commandline.specs.declared.arguments.Numbers.{Numbers}
use Rattle.commandline.specs.declared.builder.Subcommand.{Subcommand}
use Rattle.commandline.specs.declared.options.Exits.{Exits}
use Rattle.commandline.specs.declared.options.Exits.TheVariants as exits
use Rattle.commandline.specs.declared.options.Order.{Order}
use Rattle.commandline.specs.declared.options.Order.TheVariants.{Workers, InOrder, Seed}
use Rattle.commandline.specs.declared.options.ReplayedBy.{ReplayedBy}
use Rattle.commandline.specs.declared.options.ReplayedBy.TheVariants.{Schedule as ReplayedBySchedule}
use Rattle.commandline.specs.declared.options.ReplayedBy.TheVariants.{Log as ReplayedByLog}
use Rattle.commandline.specs.declared.options.ExplainedBy.{ExplainedBy}
use Rattle.commandline.specs.declared.options.ExplainedBy.TheVariants.{Order as ExplainedByOrder}
use Rattle.commandline.specs.declared.options.ExplainedBy.TheVariants.{Seed as ExplainedBySeed}
use Rattle.commandline.specs.declared.options.ExplainedBy.TheVariants.{Schedule as ExplainedBySchedule}
use Rattle.commandline.specs.declared.options.ExplainedBy.TheVariants.{Log as ExplainedByLog}
use Rattle.commandline.specs.declared.options.ChartOptions.{ChartOptions}
use Rattle.commandline.specs.declared.options.ImageForm.{ImageForm}
use Rattle.commandline.specs.declared.options.ImageForm.TheVariants as form
use Rattle.commandline.specs.declared.options.RunOptions.{RunOptions}
use Rattle.commandline.specs.declared.options.SearchFiles.{SearchFiles}
use Rattle.commandline.specs.declared.job.Job.{Job}
use Rattle.commandline.specs.declared.job.Job.TheVariants.{Check, Compile, List as List', Run, Exec, Replay}
use Rattle.commandline.specs.declared.job.Job.TheVariants.{Explain, Emit, Explore, Search, Follow, Assemble, Fmt}
use Rattle.commandline.specs.declared.job.Job.TheVariants.{Schedule, Shrink, Retell}

-- an argument that has to stand, told by its position
abbrev pub positional : Text → Rule
positional name = record (new_rule name) { required = true }

-- `--steps N`, from 1 to 4294967295, and 1000000 where it is left out
abbrev pub steps_option : Rule
steps_option = record (new_rule (codes "steps")) {
  long = Some (codes "steps");
  value_names = 1;
  defaults = codes "1000000" ∷ [];
  parser = Some (Unsigned 1 4294967295);
}

-- `--states N`, with the limit that holds where it is left out
abbrev pub states_option : Rule
states_option = record (new_rule (codes "states")) {
  long = Some (codes "states");
  value_names = 1;
  defaults = codes "1000000" ∷ [];
  parser = Some (Unsigned 1 4294967295);
}

-- `--workers N`, from 1 to 64, and 1 where it is left out
abbrev pub workers_option : Rule
workers_option = record (new_rule (codes "workers")) {
  long = Some (codes "workers");
  value_names = 1;
  defaults = codes "1" ∷ [];
  parser = Some (Unsigned 1 64);
}

-- `--image N`, 1 or 2, and 2 where it is left out
abbrev pub image_option : Rule
image_option = record (new_rule (codes "image")) {
  long = Some (codes "image");
  value_names = 1;
  defaults = codes "2" ∷ [];
  parser = Some (Unsigned 1 2);
}

-- `--seed N`, a number of 64 bits
abbrev pub seed_option : Rule
seed_option = record (new_rule (codes "seed")) {
  long = Some (codes "seed");
  value_names = 1;
  parser = Some (Unsigned 0 18446744073709551615);
}

-- `--strays N`, from 1 to 4294967295
abbrev pub strays_option : Rule
strays_option = record (new_rule (codes "strays")) {
  long = Some (codes "strays");
  value_names = 1;
  parser = Some (Unsigned 1 4294967295);
}

-- `--kills N`, to 4294967295, and 0 where it is left out
abbrev pub kills_option : Rule
kills_option = record (new_rule (codes "kills")) {
  long = Some (codes "kills");
  value_names = 1;
  defaults = codes "0" ∷ [];
  parser = Some (Unsigned 0 4294967295);
}

-- `--NAME N`, the number of an action: one of 64 bits, from 1
abbrev pub action_option : Text → Rule
action_option name = record (new_rule name) {
  long = Some name;
  value_names = 1;
  parser = Some (Unsigned 1 18446744073709551615);
}

-- an option that has a value, of which no more is known
abbrev pub valued : Text → Rule
valued name = record (new_rule name) { long = Some name; value_names = 1 }

-- a flag: an option that stands or not
abbrev pub flag : Text → Rule
flag name = record (new_rule name) { long = Some name; action = Some SetTrue }

-- `[--steps N] [--in-order | --seed N [--strays N] [--kills N]] [--trace] [--log OUT]`
abbrev pub with_run_options : App → App
with_run_options app =
    with_rule (with_rule (with_rule (with_rule (with_rule (with_rule (with_rule app steps_option)
    (flag (codes "in-order"))) seed_option) strays_option) kills_option) (flag (codes "trace"))) (valued (codes "log"))

-- `compile FILE OUT [--workers N] [--image N] [--hints]`
abbrev pub compile_command : App
compile_command =
    with_rule (with_rule (with_rule (with_rule (with_rule (new_app (codes "compile")) (positional (codes "FILE")))
    (positional (codes "OUT"))) workers_option) image_option) (flag (codes "hints"))

-- `emit FILE OUT [--hints]`
abbrev pub emit_command : App
emit_command =
    with_rule (with_rule (with_rule (new_app (codes "emit")) (positional (codes "FILE"))) (positional (codes "OUT")))
    (flag (codes "hints"))

-- `check FILE [--hints]`
abbrev pub check_command : App
check_command = with_rule (with_rule (new_app (codes "check")) (positional (codes "FILE"))) (flag (codes "hints"))

-- `list IMAGE [--linux] [--source FILE] [--hints]`
abbrev pub list_command : App
list_command =
    with_rule (with_rule (with_rule (with_rule (new_app (codes "list")) (positional (codes "IMAGE")))
    (flag (codes "linux"))) (valued (codes "source"))) (flag (codes "hints"))

-- `run FILE [--steps N] [--in-order | --seed N [--strays N] [--kills N]] [--trace] [--log OUT] [--page OUT] [--linux]
-- [--hints]`
abbrev pub run_command : App
run_command =
    with_rule (with_rule (with_rule (with_run_options (with_rule (new_app (codes "run")) (positional (codes "FILE"))))
    (valued (codes "page"))) (flag (codes "linux"))) (flag (codes "hints"))

-- `exec IMAGE [--steps N] [--in-order | --seed N [--strays N] [--kills N]] [--trace] [--log OUT] [--assembly]
-- [--exits RULE]`
abbrev pub exec_command : App
exec_command =
    with_rule (with_rule (with_run_options (with_rule (new_app (codes "exec")) (positional (codes "IMAGE"))))
    (flag (codes "assembly"))) (valued (codes "exits"))

-- `[--assembly | --image]`
abbrev pub with_form : App → App
with_form app = with_rule (with_rule app (flag (codes "assembly"))) (flag (codes "image"))

-- `[--linux] [--exits RULE]`, of which one command takes one or the other
abbrev pub with_exits : App → App
with_exits app = with_rule (with_rule app (flag (codes "linux"))) (valued (codes "exits"))

-- `replay FILE (SCHEDULE [--log OUT] | --log LOG [--steps N]) [--trace] [--page OUT] [--linux] [--hints]`, or of an image
-- `replay FILE (SCHEDULE [--log OUT] | --log LOG [--steps N]) [--trace] (--assembly | --image) [--exits RULE] [--hints]`
abbrev pub replay_command : App
replay_command =
    with_rule (with_exits (with_form (with_rule (with_rule (with_rule (with_rule (with_rule (with_rule
    (new_app (codes "replay")) (positional (codes "FILE"))) (new_rule (codes "SCHEDULE"))) steps_option)
    (flag (codes "trace"))) (valued (codes "log"))) (valued (codes "page"))))) (flag (codes "hints"))

-- `[--chart OUT [--from N] [--to N]]`
abbrev pub with_chart_options : App → App
with_chart_options app =
    with_rule (with_rule (with_rule app (valued (codes "chart"))) (action_option (codes "from")))
    (action_option (codes "to"))

-- `explain FILE [[--steps N] [--seed N [--strays N] [--kills N]] | --schedule SCHEDULE | --log LOG [--steps N] |
-- --actions ACTIONS] [--chart OUT [--from N] [--to N]] [--timeline OUT] [--page OUT] [--places] [--linux] [--hints]`
abbrev pub explain_command : App
explain_command =
    with_rule (with_rule (with_rule (with_rule (with_rule (with_chart_options (with_rule (with_rule
    (with_rule (with_rule (with_rule (with_rule (with_rule (with_rule (new_app (codes "explain"))
    (positional (codes "FILE"))) steps_option) seed_option) strays_option) kills_option)
    (valued (codes "schedule"))) (valued (codes "log"))) (valued (codes "actions"))))
    (valued (codes "timeline"))) (valued (codes "page"))) (flag (codes "places")))
    (flag (codes "linux"))) (flag (codes "hints"))

-- `explore FILE [--states N] [--strays] [--kills N] [--ends] [--chart OUT [--from N] [--to N]] [--timeline OUT]
-- [--page OUT] [--schedule OUT] [--actions OUT] [--places] [--linux] [--hints]`, or of an image
-- `explore FILE [--states N] [--strays] [--kills N] (--assembly | --image) [--schedule OUT] [--chart OUT] [--timeline OUT]
-- [--exits RULE] [--hints]`
abbrev pub explore_command : App
explore_command =
    with_rule (with_exits (with_rule (with_rule (with_form (with_rule (with_rule (with_rule
    (with_chart_options (with_rule (with_rule (with_rule (with_rule (with_rule
    (new_app (codes "explore")) (positional (codes "FILE"))) states_option) (flag (codes "strays")))
    kills_option) (flag (codes "ends")))) (valued (codes "timeline"))) (valued (codes "page")))
    (flag (codes "places")))) (valued (codes "schedule"))) (valued (codes "actions"))))
    (flag (codes "hints"))

-- `assemble FILE OUT [--hints]`
abbrev pub assemble_command : App
assemble_command =
    with_rule (with_rule (with_rule (new_app (codes "assemble")) (positional (codes "FILE"))) (positional (codes "OUT")))
    (flag (codes "hints"))

-- `fmt FILE [--check] [--hints]`
abbrev pub fmt_command : App
fmt_command =
    with_rule (with_rule (with_rule (new_app (codes "fmt")) (positional (codes "FILE"))) (flag (codes "check")))
    (flag (codes "hints"))

-- `schedule LOG OUT [--steps N] [--hints]`
abbrev pub schedule_command : App
schedule_command =
    with_rule (with_rule (with_rule (with_rule (new_app (codes "schedule")) (positional (codes "LOG")))
    (positional (codes "OUT"))) steps_option) (flag (codes "hints"))

-- `shrink FILE SCHEDULE OUT [--linux] [--hints]`
abbrev pub shrink_command : App
shrink_command =
    with_rule (with_rule (with_rule (with_rule (with_rule (new_app (codes "shrink")) (positional (codes "FILE")))
    (positional (codes "SCHEDULE"))) (positional (codes "OUT"))) (flag (codes "linux"))) (flag (codes "hints"))

-- an option that takes these numbers
abbrev pub with_numbers : Rule → Numbers → Rule
with_numbers rule numbers =
    let defaults = option_map_or (λ text. text.now ∷ []) numbers.default rule.defaults in
    record rule { value_names = 1; defaults = defaults; parser = Some (Unsigned numbers.least numbers.most) }

-- what the parser makes of an argument
abbrev pub rule_by : Text → Kind → Rule
rule_by name Positional = positional name
rule_by name Optional = new_rule name
rule_by name Flag = flag name
rule_by name (Valued value) = valued name
rule_by name (Number numbers) = with_numbers (record (new_rule name) { long = Some name }) numbers

abbrev pub rule_for : Argument → Rule
rule_for argument = rule_by argument.name.now argument.kind

-- a command with these arguments behind its own
abbrev pub with_arguments : App → List Argument → App
with_arguments app [] = app
with_arguments app (argument ∷ arguments) = with_arguments (with_rule app (rule_for argument)) arguments

abbrev pub app_for : Subcommand → App
app_for subcommand = with_arguments (new_app subcommand.name.now) subcommand.arguments.now

-- a command with these behind its own
abbrev pub with_subcommands : App → List Subcommand → App
with_subcommands app [] = app
with_subcommands app (subcommand ∷ subcommands) =
    with_subcommands (with_subcommand app (app_for subcommand).top) subcommands

-- a command of the parser that is this one, and hands no argument down to those below it
abbrev pub IsCommandOf : App → Command → Type 0
IsCommandOf app command = (app_of command ≡ app) × ((fields_of command).has_globals ≡ false)

-- whether the words have this argument; its default, which they don't have, is no such
abbrev pub is_of_words : Option ValueSource → Bool
is_of_words (Some CommandLine) = true
is_of_words _ = false

abbrev pub is_written : Text → List Row → Bool
is_written id rows = is_of_words (option_and_then (λ r. r.source) (find (λ r. bytes_eq r.id id) rows))

-- whether the words have one of these arguments
abbrev pub has_any : List Text → List Row → Bool
has_any ids rows = list_any (λ id. is_written id rows) ids

-- a text that is this number, which so many bits hold
abbrev pub IsNumberOf : Option Text → ℕ → ℕ → Type 0
IsNumberOf text bits n =
    (t : Text) × (text ≡ Some t) × IsNumeral 10 (without_leading_plus t)
    × (n ≡ digits_value 10 (without_leading_plus t)) × (n < 2 ^ bits)

-- a text that is this number, from 1, which 32 bits hold
abbrev pub IsCountOf : Option Text → ℕ → Type 0
IsCountOf text n = IsNumberOf text 32 n × (1 ≤ n)

-- the text that stands for `--steps` is this number, from 1
abbrev pub ReadsSteps : List Row → ℕ → Type 0
ReadsSteps rows steps = IsCountOf (one_of (codes "steps") rows) steps

-- the text that stands for `--states` is this number, from 1
abbrev pub ReadsStates : List Row → ℕ → Type 0
ReadsStates rows states = IsCountOf (one_of (codes "states") rows) states

-- the text that stands for `--workers` is this number, from 1 to 64
abbrev pub ReadsWorkers : List Row → ℕ → Type 0
ReadsWorkers rows workers = IsNumberOf (one_of (codes "workers") rows) 32 workers × (1 ≤ workers) × (workers ≤ 64)

-- the text that stands for `--image` is the number of this version
abbrev pub ReadsVersion : List Row → ImageVersion → Type 0
ReadsVersion rows One = IsNumberOf (one_of (codes "image") rows) 32 1
ReadsVersion rows Two = IsNumberOf (one_of (codes "image") rows) 32 2
ReadsVersion rows Linux = ⊥

-- the text that stands for `--seed` is this number
abbrev pub ReadsSeed : List Row → ℕ → Type 0
ReadsSeed rows seed = IsNumberOf (one_of (codes "seed") rows) 64 seed

-- the text that stands for `--strays` is this number, from 1, where one stands
abbrev pub ReadsStrays : List Row → Option ℕ → Type 0
ReadsStrays rows None = is_written (codes "strays") rows ≡ false
ReadsStrays rows (Some strays) =
    (is_written (codes "strays") rows ≡ true) × IsCountOf (one_of (codes "strays") rows) strays

-- the text that stands for `--kills` is this number
abbrev pub ReadsKills : List Row → ℕ → Type 0
ReadsKills rows kills = IsNumberOf (one_of (codes "kills") rows) 32 kills

-- the text that stands for this argument is the number of an action, where one stands
abbrev pub ReadsAction : Text → List Row → Option ℕ → Type 0
ReadsAction name rows None = is_written name rows ≡ false
ReadsAction name rows (Some action) = (is_written name rows ≡ true) × IsNumberOf (one_of name rows) 64 action

-- the picture that is asked for, where one is; which actions it has stands beside its file alone
abbrev pub ReadsChart : List Row → Option ChartOptions → Type 0
ReadsChart rows None =
    (first_of (codes "chart") rows ≡ None) × (has_any (codes "from" ∷ codes "to" ∷ []) rows ≡ false)
ReadsChart rows (Some chart) =
    (first_of (codes "chart") rows ≡ Some chart.out.now) × ReadsAction (codes "from") rows chart.from
    × ReadsAction (codes "to") rows chart.to

-- whether a flag stands
abbrev pub ReadsFlag : Text → List Row → Bool → Type 0
ReadsFlag name rows stands =
    (one_of name rows ≡ Some (codes "true") → stands ≡ true)
    × (one_of name rows ≡ Some (codes "false") → stands ≡ false)

-- `mesamon`, behind which one of its commands has to stand; the words hold no name of the program
abbrev pub top_command : App
top_command =
    let named = new_app (codes "mesamon") in
    record named { top = record named.top { no_binary_name = true; subcommand_required = true } }

-- `mesamon` with its thirteen commands
abbrev pub command_line : App
command_line =
    with_subcommand (with_subcommand (with_subcommand (with_subcommand (with_subcommand (with_subcommand (with_subcommand
    (with_subcommand (with_subcommand (with_subcommand (with_subcommand (with_subcommand (with_subcommand top_command
    check_command.top) compile_command.top) list_command.top) run_command.top) exec_command.top) replay_command.top)
    explain_command.top) emit_command.top) explore_command.top) assemble_command.top) fmt_command.top)
    schedule_command.top) shrink_command.top

-- who moves the threads of a run: a worker for each, or one worker in a fixed order or in that of a seed, beside which
-- alone stray wakes and kills may be asked for
abbrev pub ReadsOrder : List Row → Order → Type 0
ReadsOrder rows Workers =
    has_any (codes "in-order" ∷ codes "seed" ∷ codes "strays" ∷ codes "kills" ∷ []) rows ≡ false
ReadsOrder rows InOrder =
    (is_written (codes "in-order") rows ≡ true)
    × (has_any (codes "seed" ∷ codes "strays" ∷ codes "kills" ∷ []) rows ≡ false)
ReadsOrder rows (Seed seed strays kills) =
    (is_written (codes "in-order") rows ≡ false) × (is_written (codes "seed") rows ≡ true) × ReadsSeed rows seed
    × ReadsStrays rows strays × ReadsKills rows kills

-- how a run goes, and what is kept of it
abbrev pub ReadsOptions : List Row → RunOptions → Type 0
ReadsOptions rows o =
    ReadsSteps rows o.steps × ReadsOrder rows o.order × ReadsFlag (codes "trace") rows o.trace
    × (first_of (codes "log") rows ≡ option_map (λ log. log.now) o.log)

-- what a search has that is of a source text alone
abbrev pub of_source : List Text
of_source =
    codes "from" ∷ codes "to" ∷ codes "page" ∷ codes "places" ∷ codes "linux" ∷ codes "ends" ∷ codes "actions" ∷ []

-- what says which run is made or followed, where its actions don't stand in a file
abbrev pub of_runs : List Text
of_runs =
    codes "steps" ∷ codes "schedule" ∷ codes "log" ∷ codes "seed" ∷ codes "strays" ∷ codes "kills" ∷ []

-- the files that show what a search over an image found
abbrev pub ReadsSearchFiles : List Row → SearchFiles → Type 0
ReadsSearchFiles rows files =
    (first_of (codes "schedule") rows ≡ option_map (λ out. out.now) files.schedule)
    × (first_of (codes "chart") rows ≡ option_map (λ out. out.now) files.chart)
    × (first_of (codes "timeline") rows ≡ option_map (λ out. out.now) files.timeline)

-- a file's form: where one of two flags stands it is an assembly text or an image, else a source text
abbrev pub ReadsForm : List Row → Option ImageForm → Type 0
ReadsForm rows None = has_any (codes "assembly" ∷ codes "image" ∷ []) rows ≡ false
ReadsForm rows (Some form.Assembly) =
    (is_written (codes "assembly") rows ≡ true) × (is_written (codes "image") rows ≡ false)
ReadsForm rows (Some form.Image) =
    (is_written (codes "assembly") rows ≡ false) × (is_written (codes "image") rows ≡ true)

-- the form of a file of which an image is known: where a flag stands an assembly text, else the image itself
abbrev pub ReadsImageForm : List Row → ImageForm → Type 0
ReadsImageForm rows form.Assembly = is_written (codes "assembly") rows ≡ true
ReadsImageForm rows form.Image = is_written (codes "assembly") rows ≡ false

-- by whose rule the exits of a source text's threads wake: where a flag stands by Linux's
abbrev pub ReadsLinux : List Row → Exits → Type 0
ReadsLinux rows exits.Machine = is_written (codes "linux") rows ≡ false
ReadsLinux rows exits.Linux = is_written (codes "linux") rows ≡ true

-- the rule of this name; where none is named the machine's
abbrev pub IsExits : Option Text → Exits → Type 0
IsExits None exits.Machine = ⊤
IsExits None exits.Linux = ⊥
IsExits (Some rule) exits.Machine = rule ≡ codes "machine"
IsExits (Some rule) exits.Linux = rule ≡ codes "linux"

-- by whose rule the exits of an image's threads wake: by the one that stands for `--exits`
abbrev pub ReadsExits : List Row → Exits → Type 0
ReadsExits rows e = IsExits (first_of (codes "exits") rows) e

-- the version of the image that a source text is compiled to, by the rule of its exits
abbrev pub version_by : Exits → ImageVersion
version_by exits.Machine = Two
version_by exits.Linux = Linux

-- what a replay goes by: where a schedule stands, that one, its log is kept, and it has no limit of steps; else a log
-- of at most so many
abbrev pub IsReplayedBy : List Row → ReplayedBy → Type 0
IsReplayedBy rows (ReplayedBySchedule schedule log) =
    (first_of (codes "SCHEDULE") rows ≡ Some schedule.now)
    × (first_of (codes "log") rows ≡ option_map (λ log. log.now) log) × (is_written (codes "steps") rows ≡ false)
IsReplayedBy rows (ReplayedByLog log steps) =
    (first_of (codes "SCHEDULE") rows ≡ None) × (first_of (codes "log") rows ≡ Some log.now) × ReadsSteps rows steps

-- which run is explained: it has one source, and a schedule no limit of steps; stray wakes and kills stand beside a seed
-- alone
abbrev pub IsExplainedBy : List Row → ExplainedBy → Type 0
IsExplainedBy rows (ExplainedByOrder steps) =
    (has_any (codes "schedule" ∷ codes "log" ∷ codes "seed" ∷ codes "strays" ∷ codes "kills" ∷ []) rows ≡ false)
    × ReadsSteps rows steps
IsExplainedBy rows (ExplainedBySeed steps seed strays kills) =
    (has_any (codes "schedule" ∷ codes "log" ∷ []) rows ≡ false) × (is_written (codes "seed") rows ≡ true)
    × ReadsSteps rows steps × ReadsSeed rows seed × ReadsStrays rows strays × ReadsKills rows kills
IsExplainedBy rows (ExplainedBySchedule schedule) =
    (has_any (codes "steps" ∷ codes "log" ∷ codes "seed" ∷ codes "strays" ∷ codes "kills" ∷ []) rows ≡ false)
    × (is_written (codes "schedule") rows ≡ true) × (first_of (codes "schedule") rows ≡ Some schedule.now)
IsExplainedBy rows (ExplainedByLog log steps) =
    (has_any (codes "schedule" ∷ codes "seed" ∷ codes "strays" ∷ codes "kills" ∷ []) rows ≡ false)
    × (is_written (codes "log") rows ≡ true) × (first_of (codes "log") rows ≡ Some log.now) × ReadsSteps rows steps

-- a job of checking, from the values of its command's arguments
abbrev pub IsCheckOf : List Row → Job → Type 0
IsCheckOf rows (Check file hints) =
    (first_of (codes "FILE") rows ≡ Some file.now) × ReadsFlag (codes "hints") rows hints
IsCheckOf rows other = ⊥

-- a job of compiling
abbrev pub IsCompileOf : List Row → Job → Type 0
IsCompileOf rows (Compile file out workers version hints) =
    (first_of (codes "FILE") rows ≡ Some file.now) × (first_of (codes "OUT") rows ≡ Some out.now)
    × ReadsWorkers rows workers × ReadsVersion rows version × ReadsFlag (codes "hints") rows hints
IsCompileOf rows other = ⊥

-- a job of listing an image, or a source text's code for Linux
abbrev pub IsListOf : List Row → Job → Type 0
IsListOf rows (List' image linux source hints) =
    (first_of (codes "IMAGE") rows ≡ Some image.now) × ReadsFlag (codes "linux") rows linux
    × (first_of (codes "source") rows ≡ option_map (λ file. file.now) source) × ReadsFlag (codes "hints") rows hints
IsListOf rows other = ⊥

-- a job of running a source text
abbrev pub AsksForRun : List Row → Job → Type 0
AsksForRun rows (Run file exits options page hints) =
    (first_of (codes "FILE") rows ≡ Some file.now) × ReadsLinux rows exits × ReadsOptions rows options
    × (first_of (codes "page") rows ≡ option_map (λ out. out.now) page) × ReadsFlag (codes "hints") rows hints
AsksForRun rows other = ⊥

-- a job of running an image
abbrev pub AsksForExec : List Row → Job → Type 0
AsksForExec rows (Exec image form exits options) =
    (first_of (codes "IMAGE") rows ≡ Some image.now) × ReadsImageForm rows form × ReadsExits rows exits
    × ReadsOptions rows options
AsksForExec rows other = ⊥

-- a job of running again: a source text, or an image
abbrev pub AsksForReplay : List Row → Job → Type 0
AsksForReplay rows (Replay file exits by trace page hints) =
    (first_of (codes "FILE") rows ≡ Some file.now) × ReadsLinux rows exits × IsReplayedBy rows by
    × ReadsFlag (codes "trace") rows trace × (first_of (codes "page") rows ≡ option_map (λ out. out.now) page)
    × ReadsFlag (codes "hints") rows hints × ReadsForm rows None × (is_written (codes "exits") rows ≡ false)
AsksForReplay rows (Follow file form exits by trace hints) =
    (first_of (codes "FILE") rows ≡ Some file.now) × ReadsForm rows (Some form) × ReadsExits rows exits
    × IsReplayedBy rows by × ReadsFlag (codes "trace") rows trace
    × (has_any (codes "page" ∷ codes "linux" ∷ []) rows ≡ false) × ReadsFlag (codes "hints") rows hints
AsksForReplay rows other = ⊥

-- a job of explaining: a run that is made or followed, or the actions of a file
abbrev pub IsExplainOf : List Row → Job → Type 0
IsExplainOf rows (Explain file exits by chart timeline page places hints) =
    (first_of (codes "FILE") rows ≡ Some file.now) × ReadsLinux rows exits × IsExplainedBy rows by × ReadsChart rows chart
    × (first_of (codes "timeline") rows ≡ option_map (λ out. out.now) timeline)
    × (first_of (codes "page") rows ≡ option_map (λ out. out.now) page) × ReadsFlag (codes "places") rows places
    × ReadsFlag (codes "hints") rows hints × (is_written (codes "actions") rows ≡ false)
IsExplainOf rows (Retell file exits actions chart timeline page places hints) =
    (first_of (codes "FILE") rows ≡ Some file.now) × ReadsLinux rows exits
    × (first_of (codes "actions") rows ≡ Some actions.now) × ReadsChart rows chart
    × (first_of (codes "timeline") rows ≡ option_map (λ out. out.now) timeline)
    × (first_of (codes "page") rows ≡ option_map (λ out. out.now) page) × ReadsFlag (codes "places") rows places
    × ReadsFlag (codes "hints") rows hints × (is_written (codes "actions") rows ≡ true)
    × (has_any of_runs rows ≡ false)
IsExplainOf rows other = ⊥

-- a job of writing C
abbrev pub IsEmitOf : List Row → Job → Type 0
IsEmitOf rows (Emit file out hints) =
    (first_of (codes "FILE") rows ≡ Some file.now) × (first_of (codes "OUT") rows ≡ Some out.now)
    × ReadsFlag (codes "hints") rows hints
IsEmitOf rows other = ⊥

-- a job of searching all runs, or all schedules of an image
abbrev pub IsExploreOf : List Row → Job → Type 0
IsExploreOf rows (Explore file exits states strays kills ends chart timeline page schedule actions places hints) =
    (first_of (codes "FILE") rows ≡ Some file.now) × ReadsLinux rows exits × ReadsStates rows states
    × ReadsFlag (codes "strays") rows strays × ReadsKills rows kills × ReadsFlag (codes "ends") rows ends
    × ReadsChart rows chart × (first_of (codes "timeline") rows ≡ option_map (λ out. out.now) timeline)
    × (first_of (codes "page") rows ≡ option_map (λ out. out.now) page)
    × (first_of (codes "schedule") rows ≡ option_map (λ out. out.now) schedule)
    × (first_of (codes "actions") rows ≡ option_map (λ out. out.now) actions)
    × ReadsFlag (codes "places") rows places × ReadsFlag (codes "hints") rows hints × ReadsForm rows None
    × (is_written (codes "exits") rows ≡ false)
IsExploreOf rows (Search file form exits states strays kills files hints) =
    (first_of (codes "FILE") rows ≡ Some file.now) × ReadsForm rows (Some form) × ReadsExits rows exits
    × ReadsStates rows states × ReadsFlag (codes "strays") rows strays × ReadsKills rows kills
    × ReadsSearchFiles rows files × (has_any of_source rows ≡ false) × ReadsFlag (codes "hints") rows hints
IsExploreOf rows other = ⊥

-- a job of assembling
abbrev pub IsAssembleOf : List Row → Job → Type 0
IsAssembleOf rows (Assemble file out hints) =
    (first_of (codes "FILE") rows ≡ Some file.now) × (first_of (codes "OUT") rows ≡ Some out.now)
    × ReadsFlag (codes "hints") rows hints
IsAssembleOf rows other = ⊥

-- a job of laying out
abbrev pub IsFmtOf : List Row → Job → Type 0
IsFmtOf rows (Fmt file check hints) =
    (first_of (codes "FILE") rows ≡ Some file.now) × ReadsFlag (codes "check") rows check
    × ReadsFlag (codes "hints") rows hints
IsFmtOf rows other = ⊥

-- a job of writing the schedule of a log
abbrev pub IsScheduleOf : List Row → Job → Type 0
IsScheduleOf rows (Schedule log out steps hints) =
    (first_of (codes "LOG") rows ≡ Some log.now) × (first_of (codes "OUT") rows ≡ Some out.now) × ReadsSteps rows steps
    × ReadsFlag (codes "hints") rows hints
IsScheduleOf rows other = ⊥

-- a job of making a schedule short
abbrev pub IsShrinkOf : List Row → Job → Type 0
IsShrinkOf rows (Shrink file exits schedule out hints) =
    (first_of (codes "FILE") rows ≡ Some file.now) × ReadsLinux rows exits
    × (first_of (codes "SCHEDULE") rows ≡ Some schedule.now) × (first_of (codes "OUT") rows ≡ Some out.now)
    × ReadsFlag (codes "hints") rows hints
IsShrinkOf rows other = ⊥

-- the job that the command of a name asks for, with these values of its arguments
abbrev pub IsAskedBy : Option (Text × List Row) → Job → Type 0
IsAskedBy None job = ⊥
IsAskedBy (Some (name, rows)) job =
    ((name ≡ codes "check") × IsCheckOf rows job) ⊎ (((name ≡ codes "compile") × IsCompileOf rows job)
    ⊎ (((name ≡ codes "list") × IsListOf rows job) ⊎ (((name ≡ codes "run") × AsksForRun rows job)
    ⊎ (((name ≡ codes "exec") × AsksForExec rows job) ⊎ (((name ≡ codes "replay") × AsksForReplay rows job)
    ⊎ (((name ≡ codes "explain") × IsExplainOf rows job) ⊎ (((name ≡ codes "emit") × IsEmitOf rows job)
    ⊎ (((name ≡ codes "explore") × IsExploreOf rows job) ⊎ (((name ≡ codes "assemble") × IsAssembleOf rows job)
    ⊎ (((name ≡ codes "fmt") × IsFmtOf rows job) ⊎ (((name ≡ codes "schedule") × IsScheduleOf rows job)
    ⊎ ((name ≡ codes "shrink") × IsShrinkOf rows job))))))))))))

-- the parser finds nothing wrong with the words: they are those of one of the commands, each option at most once, each
-- number within its bounds, and nothing is missing
abbrev pub AreInOrder : List Text → Type 0
AreInOrder words = fault_of command_line words ≡ []

-- the words ask for this job
abbrev pub AsksFor : List Text → Job → Type 0
AsksFor words job = IsAskedBy (subcommand_of command_line words) job
