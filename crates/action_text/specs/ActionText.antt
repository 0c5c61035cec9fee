-- The texts of actions in a file: as they are shown, and of a kill the monitor that it abandons last behind that.
use Rattle.std.specs.Prelude.{ℕ, List, ◌++◌, Option, Some, None, codes}
use Rattle.std.specs.List.{flat_map}
use Rattle.std.specs.Fmt.{decimal, signed_decimal}
use Rattle.words.specs.Outcomes.{fault_number}
use Rattle.program.specs.Names.{Naming}
use Rattle.meaning.specs.Labels.{Action, Kind, Assign, Test, Call, Return, Print, Fork, Claim, Join, Fails, Enter}
use Rattle.meaning.specs.Labels.{Exit, Wait, Resume, Notify, Broadcast, Abandon, Finish, Stray, Kill}
use Rattle.actionlines.specs.Lines.{condition_name, monitor_name, spaced_number}

-- numbers, a space before each
abbrev pub numbers_text : List ℕ → List ℕ
numbers_text numbers = flat_map spaced_number numbers

-- the monitor that a killed process abandons last, where that isn't its outermost
abbrev pub last_text : Naming → Option ℕ → List ℕ
last_text names None = codes ""
last_text names (Some m) = codes " last " ++ monitor_name names m

-- the monitor that an action says is abandoned last
abbrev pub last_in : Kind → Option ℕ
last_in (Kill resumed last) = last
last_in other = None

-- the name of an action, and what stands behind it
abbrev pub kind_text : Naming → Kind → List ℕ
kind_text names Assign = codes "assign"
kind_text names Test = codes "test"
kind_text names Call = codes "call"
kind_text names Return = codes "return"
kind_text names Finish = codes "end"
kind_text names (Print z) = codes "print " ++ signed_decimal z
kind_text names (Fork child) = codes "fork " ++ decimal child
kind_text names (Claim child) = codes "claim " ++ decimal child
kind_text names (Join child) = codes "join " ++ decimal child
kind_text names (Fails fault) = codes "fault " ++ decimal (fault_number fault)
kind_text names (Enter m) = codes "enter " ++ monitor_name names m
kind_text names (Exit m) = codes "exit " ++ monitor_name names m
kind_text names (Resume m) = codes "resume " ++ monitor_name names m
kind_text names (Abandon m) = codes "abandon " ++ monitor_name names m
kind_text names (Wait c) = codes "wait " ++ condition_name names c
kind_text names (Stray c) = codes "stray " ++ condition_name names c
kind_text names (Notify c resumed) = codes "notify " ++ (condition_name names c ++ numbers_text resumed)
kind_text names (Broadcast c resumed) = codes "broadcast " ++ (condition_name names c ++ numbers_text resumed)
kind_text names (Kill resumed last) = codes "kill" ++ (numbers_text resumed ++ last_text names last)

-- the process, and what it does
abbrev pub action_text : Naming → Action → List ℕ
action_text names a = decimal a.process ++ (codes " " ++ kind_text names a.kind)

-- the line of an action
abbrev pub action_line : Naming → Action → List ℕ
action_line names a = action_text names a ++ codes "\n"

-- the lines of a run
abbrev pub run_lines : Naming → List Action → List ℕ
run_lines names actions = flat_map (action_line names) actions
