-- The lines of a log.
use Rattle.std.specs.Prelude.{ℕ, zero, suc, List, [], ◌∷◌, ◌++◌, Option, Some, None, codes, if◌then◌else◌}
use Rattle.std.specs.List.{flat_map}
use Rattle.std.specs.Fmt.{decimal, signed_decimal}
use Rattle.words.specs.Signed.{signed_of}
use Rattle.words.specs.Limits.{most_threads}
use Rattle.machine.specs.declared.event.Entry.{Entry}
use Rattle.machine.specs.declared.event.Event.{Event}
use Rattle.machine.specs.declared.event.EventName.{EventName}
use Rattle.machine.specs.declared.event.EventName.TheVariants.{Local, Load, Store, Swap, CompareSwap, FetchOr, FetchAdd}
use Rattle.machine.specs.declared.event.EventName.TheVariants.{Fork, Print, Wait, Wake, Requeue, FutexLock, FutexCompare}
use Rattle.machine.specs.declared.event.EventName.TheVariants.{Ret, RetValue, Die, Entry as Entry', Pending, Clear, Last}
use Rattle.machine.specs.declared.event.EventName.TheVariants.{Stray, Kill}
use Rattle.machine.specs.ThreadSets.{has}
use Rattle.machine.specs.declared.thread_set.ThreadSet.{ThreadSet}

-- the end of a line
abbrev pub line_feed : List ℕ
line_feed = 10 ∷ []

-- how an event is called
abbrev pub name_text : EventName → List ℕ
name_text Local = codes "TURN"
name_text Load = codes "LOAD"
name_text Store = codes "STORE"
name_text Swap = codes "SWAP"
name_text CompareSwap = codes "CAS"
name_text FetchOr = codes "AOR"
name_text FetchAdd = codes "AADD"
name_text Fork = codes "FORK"
name_text Print = codes "PRINT"
name_text Wait = codes "FWAIT"
name_text Wake = codes "FWAKE"
name_text Requeue = codes "FREQ"
name_text FutexLock = codes "FLOCK"
name_text FutexCompare = codes "FCMP"
name_text Ret = codes "RET"
name_text RetValue = codes "RETV"
name_text Die = codes "DIE"
name_text Entry' = codes "ENTRY"
name_text Pending = codes "PENDING"
name_text Clear = codes "CLEAR"
name_text Last = codes "LAST"
name_text Stray = codes "STRAY"
name_text Kill = codes "KILL"

-- a printed word is shown as the number that it stands for
abbrev pub value_text : EventName → ℕ → List ℕ
value_text Print v = signed_decimal (signed_of v)
value_text _ v = decimal v

-- the threads of a set, by rising number, up to a number
abbrev pub members : ThreadSet → ℕ → List ℕ
members set zero = []
members set (suc t) = members set t ++ (if has set (suc t) then suc t ∷ [] else [])

-- each number after a space
abbrev pub numbers_text : List ℕ → List ℕ
numbers_text numbers = flat_map (λ n. codes " " ++ decimal n) numbers

-- a word and the numbers after it, where there are any
abbrev pub list_text : List ℕ → List ℕ → List ℕ
list_text word [] = []
list_text word (n ∷ ns) = word ++ numbers_text (n ∷ ns)

-- a word and the threads of a set, or nothing where the set is empty
abbrev pub set_text : List ℕ → ThreadSet → List ℕ
set_text word set = list_text word (members set most_threads)

-- a step's name and value, and the threads that it woke and moved
abbrev pub event_text : Event → List ℕ
event_text e =
    name_text e.name ++ codes " " ++ value_text e.name e.value
    ++ set_text (codes " woke") e.woken ++ set_text (codes " moved") e.moved

-- the step of an entry: its event, or TURN where it has none
abbrev pub step_text : Option Event → List ℕ
step_text None = codes "TURN 0"
step_text (Some e) = event_text e

-- the thread, its local steps, and what came then
abbrev pub entry_text : Entry → List ℕ
entry_text e = decimal e.thread ++ codes " " ++ decimal e.local ++ codes " " ++ step_text e.event

abbrev pub entry_line : Entry → List ℕ
entry_line e = entry_text e ++ line_feed

-- the lines of a log
abbrev pub log_lines : List Entry → List ℕ
log_lines log = flat_map entry_line log
