-- Whom an entry concerns.
use Rattle.std.specs.Prelude.{◌≡◌, ◌≢◌, ◌-◌, Bool, true, false, List, [], length, slice_get, Option, Some, None, MatchBool}
use Rattle.machine.specs.declared.event.Entry.{Entry}
use Rattle.machine.specs.declared.event.Event.{Event}
use Rattle.machine.specs.declared.event.EventName.{EventName}
use Rattle.machine.specs.declared.event.EventName.TheVariants.{Fork, Wait, Wake, Requeue, Kill}
use Rattle.machine.specs.ThreadSets.{set_of}
use Rattle.packed_log.specs.Views.{step_of}
use Rattle.workers.specs.declared.shared_run.WakeReason.{WakeReason}

-- a futex call gives its buckets up by its last piece, and a thread that is killed gives up what it held
abbrev pub gives_up_by : EventName → Bool
gives_up_by Wait = true
gives_up_by Wake = true
gives_up_by Requeue = true
gives_up_by Kill = true
gives_up_by _ = false

-- whether buckets were given up by an event, if there is one
abbrev pub gives_up : Option Event → Bool
gives_up None = false
gives_up (Some event) = gives_up_by event.name

-- an event concerns the threads that it woke, a fork whoever starts workers, and buckets that were given up those who
-- wait for one
abbrev pub Concerns : Option Event → WakeReason → Type 0
Concerns None wake_reason =
    (wake_reason.woken ≡ set_of []) × (wake_reason.forked ≡ false) × (wake_reason.released ≡ false)
Concerns (Some event) wake_reason =
    (wake_reason.woken ≡ event.woken) × MatchBool wake_reason.forked (event.name ≡ Fork) (event.name ≢ Fork)
    × (wake_reason.released ≡ gives_up_by event.name)

-- that of an event which concerns nobody
abbrev pub nobody_concerned : WakeReason
nobody_concerned = record { woken = set_of []; forked = false; released = false }

-- the event of the last entry
abbrev pub last_event : List Entry → Option Event
last_event log = step_of (slice_get log (length log - 1))
