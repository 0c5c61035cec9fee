-- The lines of actions.
use Rattle.std.specs.Prelude.{ℕ, List, ◌++◌, Option, Some, None, slice_get, codes}
use Rattle.std.specs.List.{flat_map}
use Rattle.std.specs.Fmt.{decimal, signed_decimal}
use Rattle.words.specs.Outcomes.{fault_number}
use Rattle.program.specs.declared.kinds.Member.{Member}
use Rattle.program.specs.Names.{MonitorNaming, Naming}
use Rattle.meaning.specs.Labels.{Action, Kind, Assign, Test, Call, Return, Print, Fork, Claim, Join, Fails, Enter}
use Rattle.meaning.specs.Labels.{Exit, Wait, Resume, Notify, Broadcast, Abandon, Finish, Stray, Kill}

-- the name of an action
abbrev pub word : Kind → List ℕ
word Assign = codes "assign"
word Test = codes "test"
word Call = codes "call"
word Return = codes "return"
word (Print z) = codes "print"
word (Fork child) = codes "fork"
word (Claim child) = codes "claim"
word (Join child) = codes "join"
word (Fails fault) = codes "fault"
word (Enter m) = codes "enter"
word (Exit m) = codes "exit"
word (Wait c) = codes "wait"
word (Resume m) = codes "resume"
word (Notify c resumed) = codes "notify"
word (Broadcast c resumed) = codes "broadcast"
word (Abandon m) = codes "abandon"
word Finish = codes "end"
word (Stray c) = codes "stray"
word (Kill resumed last) = codes "kill"

-- the name of a monitor, if there is one
abbrev pub name_in : Option MonitorNaming → List ℕ
name_in None = codes ""
name_in (Some m) = m.name

-- the name of a monitor, by its number
abbrev pub monitor_name : Naming → ℕ → List ℕ
monitor_name names m = name_in (slice_get names.monitors m)

-- a name, or no text
abbrev pub or_nothing : Option (List ℕ) → List ℕ
or_nothing None = codes ""
or_nothing (Some name) = name

-- the name of a monitor's member of this number, if there is one
abbrev pub member_in : Option MonitorNaming → ℕ → List ℕ
member_in None number = codes ""
member_in (Some m) number = or_nothing (slice_get m.members number)

-- `monitor.condition`
abbrev pub condition_name : Naming → Member → List ℕ
condition_name names c =
    monitor_name names c.monitor ++ codes "." ++ member_in (slice_get names.monitors c.monitor) c.number

-- numbers, a space before each
abbrev pub spaced_number : ℕ → List ℕ
spaced_number n = codes " " ++ decimal n

-- what stands behind an action's name
abbrev pub details : Naming → Kind → List ℕ
details names Assign = codes ""
details names Test = codes ""
details names Call = codes ""
details names Return = codes ""
details names (Print z) = codes " " ++ signed_decimal z
details names (Fork child) = spaced_number child
details names (Claim child) = spaced_number child
details names (Join child) = spaced_number child
details names (Fails fault) = spaced_number (fault_number fault)
details names (Enter m) = codes " " ++ monitor_name names m
details names (Exit m) = codes " " ++ monitor_name names m
details names (Wait c) = codes " " ++ condition_name names c
details names (Resume m) = codes " " ++ monitor_name names m
details names (Notify c resumed) = codes " " ++ condition_name names c ++ flat_map spaced_number resumed
details names (Broadcast c resumed) = codes " " ++ condition_name names c ++ flat_map spaced_number resumed
details names (Abandon m) = codes " " ++ monitor_name names m
details names Finish = codes ""
details names (Stray c) = codes " " ++ condition_name names c
details names (Kill resumed last) = flat_map spaced_number resumed

-- the process, the action's name, and what stands behind it
abbrev pub line : Naming → Action → List ℕ
line names a = decimal a.process ++ codes " " ++ word a.kind ++ details names a.kind ++ codes "\n"
