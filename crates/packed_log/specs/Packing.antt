-- A log in words: a head for each entry, and beside them the words of the sets of threads that aren't empty. Where an
-- entry's thread and local steps have no room in a head, they stand beside it.
use Rattle.std.specs.Prelude.{ℕ, ◌+◌, ◌/◌, ◌%◌, ◌^◌, ◌==◌, if◌then◌else◌}
use Rattle.std.specs.Prelude.{List, [], ◌∷◌, ◌++◌, map, take, drop, get_or, Option, Some, None}
use Rattle.machine.specs.declared.event.Entry.{Entry}
use Rattle.machine.specs.declared.event.Event.{Event}
use Rattle.machine.specs.declared.event.EventName.{EventName}
use Rattle.machine.specs.declared.event.EventName.TheVariants as name
use Rattle.machine.specs.declared.thread_set.ThreadSet.{ThreadSet}
use Rattle.machine.specs.declared.thread_set.ThreadSet.TheVariants.{Nobody, Single, Several}
use Rattle.packed_log.specs.declared.wide_head.WideHead.{WideHead}

-- the kind of step of a number; of another one there is none
abbrev pub name_of : ℕ → Option EventName
name_of n =
    if n == 1 then Some name.Local
    else if n == 2 then Some name.Load
    else if n == 3 then Some name.Store
    else if n == 4 then Some name.Swap
    else if n == 5 then Some name.CompareSwap
    else if n == 6 then Some name.FetchOr
    else if n == 7 then Some name.FetchAdd
    else if n == 8 then Some name.Fork
    else if n == 9 then Some name.Print
    else if n == 10 then Some name.Wait
    else if n == 11 then Some name.Wake
    else if n == 12 then Some name.Requeue
    else if n == 13 then Some name.Ret
    else if n == 14 then Some name.RetValue
    else if n == 15 then Some name.Die
    else if n == 16 then Some name.Entry
    else if n == 17 then Some name.Pending
    else if n == 18 then Some name.Clear
    else if n == 19 then Some name.Last
    else if n == 20 then Some name.Stray
    else if n == 21 then Some name.Kill
    else if n == 22 then Some name.FutexLock
    else if n == 23 then Some name.FutexCompare
    else None

-- the parts of a head
abbrev pub thread_in : ℕ → ℕ
thread_in head = head % 2 ^ 10

abbrev pub local_in : ℕ → ℕ
local_in head = head / 2 ^ 10 % 2 ^ 9

abbrev pub kind_in : ℕ → ℕ
kind_in head = head / 2 ^ 19 % 2 ^ 5

-- the form of the set of woken threads: 0 for nobody, 1 for one thread, 2 for several
abbrev pub wakes_in : ℕ → ℕ
wakes_in head = head / 2 ^ 24 % 2 ^ 2

-- likewise of moved threads
abbrev pub moves_in : ℕ → ℕ
moves_in head = head / 2 ^ 26 % 2 ^ 2

abbrev pub value_in : ℕ → ℕ
value_in head = head / 2 ^ 28 % 2 ^ 32

-- how many words a set of a form has
abbrev pub words_of : ℕ → ℕ
words_of form = if form == 1 then 1 else if form == 2 then 16 else 0

-- how many words of sets stand beside a head
abbrev pub sets_in : ℕ → ℕ
sets_in head = words_of (wakes_in head) + words_of (moves_in head)

-- the set of a form whose words stand at a place
abbrev pub set_at : ℕ → List ℕ → ℕ → ThreadSet
set_at form words place =
    if form == 1 then Single (get_or words place 0 % 2 ^ 32)
    else if form == 2 then Several (take 16 (drop place words))
    else Nobody

-- the step of an entry of this kind
abbrev pub event_of : Option EventName → ℕ → List ℕ → Option Event
event_of None head sets = None
event_of (Some kind) head sets = Some (record {
  name = kind;
  value = value_in head;
  woken = set_at (wakes_in head) sets 0;
  moved = set_at (moves_in head) sets (words_of (wakes_in head));
})

-- a head with its thread and its local steps beside it
abbrev pub widened : ℕ → WideHead
widened head = record { thread = thread_in head; local = local_in head; head = head }

-- the entry of such a head, where these are the words of its sets and of those that follow
abbrev pub entry_of : WideHead → List ℕ → Entry
entry_of wide sets = record {
  thread = wide.thread;
  local = wide.local;
  event = event_of (name_of (kind_in wide.head)) wide.head sets;
}

-- the heads of a log: those that have their threads and local steps, and then those with these beside them
abbrev pub heads_of : List ℕ → List WideHead → List WideHead
heads_of heads wide = map widened heads ++ wide

-- the entries of heads, with the sets beside them
abbrev pub entries_of : List WideHead → List ℕ → List Entry
entries_of [] sets = []
entries_of (wide ∷ heads) sets = entry_of wide sets ∷ entries_of heads (drop (sets_in wide.head) sets)

-- how many words of sets stand beside heads
abbrev pub sets_of_heads : List WideHead → ℕ
sets_of_heads [] = 0
sets_of_heads (wide ∷ heads) = sets_in wide.head + sets_of_heads heads

-- the form of a set
abbrev pub form_of : ThreadSet → ℕ
form_of Nobody = 0
form_of (Single t) = 1
form_of (Several words) = 2

-- the words of a set as it stands beside a head
abbrev pub kept : ThreadSet → List ℕ
kept Nobody = []
kept (Single t) = t ∷ []
kept (Several words) = words

-- the words of the sets that stand beside the head of an entry
abbrev pub sets_of : Option Event → List ℕ
sets_of None = []
sets_of (Some event) = kept event.woken ++ kept event.moved
