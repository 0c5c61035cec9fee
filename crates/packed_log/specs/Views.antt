-- A packed log as contracts see it.
use Rattle.std.specs.Prelude.{ℕ, ◌≡◌, ◌<◌, ◌^◌, ◌/◌, min, List, ◌++◌, length, Option, Some, None}
use Rattle.machine.specs.declared.event.Entry.{Entry}
use Rattle.machine.specs.declared.event.Event.{Event}
use Rattle.machine.specs.declared.event.EventName.{EventName}
use Rattle.machine.specs.declared.thread_set.ThreadSet.{ThreadSet}
use Rattle.machine.specs.declared.thread_set.ThreadSet.TheVariants.{Nobody, Single, Several}
use Rattle.packed_log.specs.Packing.{entry_of, sets_of, sets_in, sets_of_heads}
use Rattle.packed_log.specs.declared.wide_head.WideHead.{WideHead}

-- its entries, and for how many more there is room
pub record PackedView : Type 0 where
  pub items : List Entry
  pub room : ℕ

-- for how many entries more there is room, with this room for heads of both kinds and for words of sets
abbrev pub room_for : ℕ → ℕ → ℕ → ℕ
room_for heads sets wide = min (min heads (sets / 32)) wide

-- no word of a set is missing, and none stands behind the last entry's
abbrev pub IsPacked : List WideHead → List ℕ → Type 0
IsPacked heads sets = length sets ≡ sets_of_heads heads

-- a thread and its local steps have room in a head
pub record HasHead (t count : ℕ) : Type 0 where
  pub thread : t < 2 ^ 10
  pub local : count < 2 ^ 9

-- a set is a value of its type: its one thread has a number of 32 bits, or it has 16 words
abbrev pub IsWhole : ThreadSet → Type 0
IsWhole Nobody = Unit {0}
IsWhole (Single t) = t < 2 ^ 32
IsWhole (Several words) = length words ≡ 16

-- a head is an entry's: with the entry's sets behind it, it is read as the entry, and has no other sets
pub record IsHeadOf (entry : Entry) (wide : WideHead) : Type 0 where
  pub reads : (more : List ℕ) → entry_of wide (sets_of entry.event ++ more) ≡ entry
  pub beside : sets_in wide.head ≡ length (sets_of entry.event)

-- the shared step of an entry, if there is one
abbrev pub step_of : Option Entry → Option Event
step_of None = None
step_of (Some entry) = entry.event

-- a step, if there is one, is of this kind and woke these threads
abbrev pub Woke : Option Event → Option EventName → ThreadSet → Type 0
Woke None kind woken = (kind ≡ None) × (woken ≡ Nobody)
Woke (Some event) kind woken = (kind ≡ Some event.name) × (woken ≡ event.woken)
