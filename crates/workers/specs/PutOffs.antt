-- Calls that are put off: of the workers of which threads, and for how many entries.
use Rattle.std.specs.Prelude.{suc, ◌≡◌, ◌⊎◌, ◌≤◌, []}
use Rattle.machine.specs.declared.thread_set.ThreadSet.{ThreadSet}
use Rattle.machine.specs.ThreadSets.{set_of}
use Rattle.workers.specs.declared.put_off.PutOff.{PutOff}

-- none is
abbrev pub AreNone : PutOff → Type 0
AreNone put_off = put_off.woken ≡ set_of []

-- those of the threads that an entry woke, behind it
abbrev pub for_entry : ThreadSet → PutOff
for_entry woken = record { woken = woken; entries = 0 }

-- they are for one entry more
abbrev pub counted : PutOff → PutOff
counted put_off = record put_off { entries = suc put_off.entries }

-- none is put off behind an entry, or those that were are for one more, and for 16 at most
abbrev pub AreDue : PutOff → PutOff → Type 0
AreDue old new = AreNone new ⊎ ((new ≡ counted old) × (new.entries ≤ 16))

-- they are as they were, none is, or those are of the threads that the entry woke
abbrev pub AreKeptOrMade : ThreadSet → PutOff → PutOff → Type 0
AreKeptOrMade woken old new = (new ≡ old) ⊎ (AreNone new ⊎ (new ≡ for_entry woken))

-- behind an entry calls are made, but for those that were put off before it for fewer than 16 entries, or those of the threads
-- that it woke itself
abbrev pub AreMadeInTime : ThreadSet → PutOff → PutOff → Type 0
AreMadeInTime woken old new = AreDue old new ⊎ (new ≡ for_entry woken)
