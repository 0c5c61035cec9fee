-- Which actions have a text that is read.
use Rattle.std.specs.Prelude.{ℕ, ◌<◌, ◌^◌, length, Option, Some, None, IfSome, ⊤, FitsSigned, slice_get}
use Rattle.std.specs.Int.{w32}
use Rattle.std.specs.List.{All}
use Rattle.program.specs.Names.{Naming}
use Rattle.program.specs.declared.kinds.Member.{Member}
use Rattle.meaning.specs.Labels.{Action, Kind, Assign, Test, Call, Return, Print, Fork, Claim, Join, Fails, Enter}
use Rattle.meaning.specs.Labels.{Exit, Wait, Resume, Notify, Broadcast, Abandon, Finish, Stray, Kill}
use Rattle.log_text.specs.Cuts.{NoByte}
use Rattle.action_text.specs.ActionText.{action_text}

-- the number of a process
abbrev pub IsNumber : ℕ → Type 0
IsNumber n = n < 2 ^ 32

-- there is a monitor of this number
abbrev pub HasMonitor : Naming → ℕ → Type 0
HasMonitor names m = (m < length names.monitors) × IsNumber m

-- there is such a member
abbrev pub HasMember : Naming → Member → Type 0
HasMember names c =
    HasMonitor names c.monitor × IsNumber c.number
    × IfSome (slice_get names.monitors c.monitor) (λ m. c.number < length m.members)

-- the monitor that is abandoned last is one
abbrev pub HasLast : Naming → Option ℕ → Type 0
HasLast names None = ⊤
HasLast names (Some m) = HasMonitor names m

-- numbers are of the machine's size, and monitors and conditions are there
abbrev pub IsSizedKind : Naming → Kind → Type 0
IsSizedKind names Assign = ⊤
IsSizedKind names Test = ⊤
IsSizedKind names Call = ⊤
IsSizedKind names Return = ⊤
IsSizedKind names Finish = ⊤
IsSizedKind names (Print z) = FitsSigned w32 z
IsSizedKind names (Fork child) = IsNumber child
IsSizedKind names (Claim child) = IsNumber child
IsSizedKind names (Join child) = IsNumber child
IsSizedKind names (Fails fault) = ⊤
IsSizedKind names (Enter m) = HasMonitor names m
IsSizedKind names (Exit m) = HasMonitor names m
IsSizedKind names (Resume m) = HasMonitor names m
IsSizedKind names (Abandon m) = HasMonitor names m
IsSizedKind names (Wait c) = HasMember names c
IsSizedKind names (Stray c) = HasMember names c
IsSizedKind names (Notify c resumed) = HasMember names c × All IsNumber resumed
IsSizedKind names (Broadcast c resumed) = HasMember names c × All IsNumber resumed
IsSizedKind names (Kill resumed last) = All IsNumber resumed × HasLast names last

abbrev pub IsSized : Naming → Action → Type 0
IsSized names a = IsNumber a.process × IsSizedKind names a.kind

-- an action whose text is one line
abbrev pub IsReadable : Naming → Action → Type 0
IsReadable names a = IsSized names a × NoByte 10 (action_text names a)

-- actions of one form
abbrev pub IsPlain : Kind → Type 0
IsPlain Assign = ⊤
IsPlain Test = ⊤
IsPlain Call = ⊤
IsPlain Return = ⊤
IsPlain Finish = ⊤
IsPlain other = ⊥

-- with a number
abbrev pub HasNumber : Kind → Type 0
HasNumber (Print z) = ⊤
HasNumber (Fork child) = ⊤
HasNumber (Claim child) = ⊤
HasNumber (Join child) = ⊤
HasNumber (Fails fault) = ⊤
HasNumber other = ⊥

-- with a monitor
abbrev pub IsOfMonitor : Kind → Type 0
IsOfMonitor (Enter m) = ⊤
IsOfMonitor (Exit m) = ⊤
IsOfMonitor (Resume m) = ⊤
IsOfMonitor (Abandon m) = ⊤
IsOfMonitor other = ⊥

-- with a condition
abbrev pub IsOfCondition : Kind → Type 0
IsOfCondition (Wait c) = ⊤
IsOfCondition (Stray c) = ⊤
IsOfCondition (Notify c resumed) = ⊤
IsOfCondition (Broadcast c resumed) = ⊤
IsOfCondition other = ⊥

-- a kill
abbrev pub IsOfKill : Kind → Type 0
IsOfKill (Kill resumed last) = ⊤
IsOfKill other = ⊥
