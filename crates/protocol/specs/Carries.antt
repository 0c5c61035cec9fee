-- The labels of the source that moves carry, and what they make of the source's table.
use Rattle.std.specs.Prelude.{◌≡◌, ℕ, ◌+◌, ◌==◌, not, Bool, true, false, Option, Some, None, List}
use Rattle.std.specs.Prelude.{[], ◌∷◌}
use Rattle.words.specs.Updates.{put}
use Rattle.program.specs.declared.kinds.Member.{Member}
use Rattle.meaning.specs.Labels.{Label, Alone, Stores, Forks, FindsFull, Claims, FindsClaimed, Joins}
use Rattle.meaning.specs.Labels.{Enters, Resumes, Exits, Waits, Notifies, Broadcasts, Abandons, Ends}
use Rattle.meaning.specs.Labels as L
use Rattle.meaning.specs.Table.{Table, Free, Abandoned, HeldBy, without_waiters, Allows, AllowsStray, AllowsKill}
use Rattle.protocol.specs.Word.{owner_died_bit}
use Rattle.protocol.specs.Points.{Purpose, ToEnter, ToReenter, ToResume, Release, ToExit, ToWait}
use Rattle.protocol.specs.Points.{Point, NotifyWakes, BroadcastMarks, BroadcastReads}
use Rattle.protocol.specs.Points.{BroadcastMoves}
use Rattle.protocol.specs.World.{World, awake_after, requeued_sleep}
use Rattle.protocol.specs.Moves.{Move, Own, Raise, CompareSwapGot, FreeGot, SwapWake, SwapAlone, WakeSeq, MoveAll}
use Rattle.protocol.specs.Moves.{EntryAlone, EntryWake, PendAlone, PendWake, ClearId, Fork, ForkFull, Claim}
use Rattle.protocol.specs.Moves.{ClaimTaken, IdGone, StraySeq, Kill, KeepWake, KeepAlone}
pub use Rattle.protocol.specs.Waiters.{on_sequence, waits_on, is_resumed, with_number, chosen_from, resumed_by}

-- what a move is in the source: an action of a process, or one from outside
pub data Event : Type 0 where
  Acts : (process : ℕ) → Label → Event
  Strays : (process : ℕ) (condition : Member) → Event
  Kills : (process : ℕ) (notified : Option Member) (resumed : List ℕ) → Event

-- whether a lock word says that its owner died
abbrev pub has_died : ℕ → Bool
has_died v = not (owner_died_bit v == 0)

-- the action of a thread that takes the lock of m, for this purpose
abbrev pub taking_label : Purpose → ℕ → Bool → Label
taking_label ToEnter m was_abandoned = Enters m was_abandoned
taking_label ToReenter m was_abandoned = Enters m was_abandoned
taking_label (ToResume c) m was_abandoned = Resumes m was_abandoned

-- the action of a thread that gives up the lock of m, for this purpose
abbrev pub release_label : Release → ℕ → Label
release_label ToExit m = Exits m
release_label (ToWait c s) m = Waits c

-- a killed thread that has raised the sequence number and not yet woken resumes those who don't sleep any more
abbrev pub death : World → Table → ℕ → Point → Event
death w T t (NotifyWakes c) = Kills t (Some c) (resumed_by w T c (put w.asleep t None))
death w T t (BroadcastMarks c) = Kills t (Some c) (resumed_by w T c (put w.asleep t None))
death w T t (BroadcastReads c) = Kills t (Some c) (resumed_by w T c (put w.asleep t None))
death w T t (BroadcastMoves c s) = Kills t (Some c) (resumed_by w T c (put w.asleep t None))
death w T t p = Kills t None []

-- what a move carries
abbrev pub event_of : World → Table → ℕ → Move → Option Event
event_of w T t (Own l) = Some (Acts t l)
event_of w T t (Raise fault) = Some (Acts t (Alone (L.Fails fault)))
event_of w T t (CompareSwapGot m) = Some (Acts t (Enters m false))
event_of w T t (FreeGot m v k) = Some (Acts t (taking_label k m (has_died v)))
event_of w T t (SwapWake m r) = Some (Acts t (release_label r m))
event_of w T t (SwapAlone m r) = Some (Acts t (release_label r m))
event_of w T t (KeepWake m v r) = Some (Acts t (release_label r m))
event_of w T t (KeepAlone m v r) = Some (Acts t (release_label r m))
event_of w T t (WakeSeq c woken) = Some (Acts t (Notifies c (resumed_by w T c (awake_after w.asleep woken))))
event_of w T t (MoveAll c s) = Some (Acts t (Broadcasts c (resumed_by w T c (requeued_sleep w.asleep c))))
event_of w T t (EntryAlone m x end) = Some (Acts t (Abandons m))
event_of w T t (EntryWake m x end woken) = Some (Acts t (Abandons m))
event_of w T t (PendAlone m end) = Some (Acts t (Abandons m))
event_of w T t (PendWake m end woken) = Some (Acts t (Abandons m))
event_of w T t (ClearId end) = Some (Acts t (Ends end))
event_of w T t (Fork parent) = Some (Acts parent (Forks t))
event_of w T t ForkFull = Some (Acts t FindsFull)
event_of w T t (Claim q) = Some (Acts t (Claims q))
event_of w T t (ClaimTaken q) = Some (Acts t (FindsClaimed q))
event_of w T t (IdGone q end) = Some (Acts t (Joins q end))
event_of w T t (StraySeq c p) = Some (Strays t c)
event_of w T t (Kill p) = Some (death w T t p)
event_of w T t m = None

-- who changes a variable of a monitor, gives the monitor up, or notifies on a condition of it, holds it
abbrev pub IsByHolder : ℕ → Label → Table → Type 0
IsByHolder p (Stores m) T = T.hold m ≡ HeldBy p
IsByHolder p (Exits m) T = T.hold m ≡ HeldBy p
IsByHolder p (Waits c) T = T.hold c.monitor ≡ HeldBy p
IsByHolder p (Notifies c resumed) T = T.hold c.monitor ≡ HeldBy p
IsByHolder p (Broadcasts c resumed) T = T.hold c.monitor ≡ HeldBy p
IsByHolder p (Abandons m) T = T.hold m ≡ HeldBy p
IsByHolder p l T = Unit {0}

-- the source allows an event, which leads from one table to another; where that has to be, it is the holder's
abbrev pub Permits : Event → Table → Table → Type 0
Permits (Acts p l) T T' = Allows p l T T' × IsByHolder p l T
Permits (Strays p c) T T' = AllowsStray p c T T'
Permits (Kills p notified resumed) T T' = AllowsKill p notified resumed T T'

-- who waits after a release, and after a kill
abbrev pub released_waits : Release → ℕ → (ℕ → Option Member) → ℕ → Option Member
released_waits ToExit t waits = waits
released_waits (ToWait c s) t waits = put waits t (Some c)

-- who waits on what, behind the kill of a thread that stands at this point
abbrev pub killed_waits : World → Table → ℕ → Point → ℕ → Option Member
killed_waits w T t (NotifyWakes c) = put (without_waiters (resumed_by w T c (put w.asleep t None)) T.waits) t None
killed_waits w T t (BroadcastMarks c) = put (without_waiters (resumed_by w T c (put w.asleep t None)) T.waits) t None
killed_waits w T t (BroadcastReads c) = put (without_waiters (resumed_by w T c (put w.asleep t None)) T.waits) t None
killed_waits w T t (BroadcastMoves c s) = put (without_waiters (resumed_by w T c (put w.asleep t None)) T.waits) t None
killed_waits w T t p = put T.waits t None

-- the table after a move
abbrev pub table_after : World → Table → ℕ → Move → Table
table_after w T t (CompareSwapGot m) = record T { hold = put T.hold m (HeldBy t) }
table_after w T t (FreeGot m v k) = record T { hold = put T.hold m (HeldBy t) }
table_after w T t (SwapWake m r) = record T { hold = put T.hold m Free; waits = released_waits r t T.waits }
table_after w T t (SwapAlone m r) = record T { hold = put T.hold m Free; waits = released_waits r t T.waits }
table_after w T t (KeepWake m v r) = record T { hold = put T.hold m Free; waits = released_waits r t T.waits }
table_after w T t (KeepAlone m v r) = record T { hold = put T.hold m Free; waits = released_waits r t T.waits }
table_after w T t (WakeSeq c woken) =
    record T { waits = without_waiters (resumed_by w T c (awake_after w.asleep woken)) T.waits }
table_after w T t (MoveAll c s) =
    record T { waits = without_waiters (resumed_by w T c (requeued_sleep w.asleep c)) T.waits }
table_after w T t (EntryAlone m x end) = record T { hold = put T.hold m Abandoned }
table_after w T t (EntryWake m x end woken) = record T { hold = put T.hold m Abandoned }
table_after w T t (PendAlone m end) = record T { hold = put T.hold m Abandoned }
table_after w T t (PendWake m end woken) = record T { hold = put T.hold m Abandoned }
table_after w T t (ClearId end) = record T { over = put T.over t (Some end) }
table_after w T t (Fork parent) = record T { made = T.made + 1 }
table_after w T t (Claim q) = record T { claimed = put T.claimed q true }
table_after w T t (StraySeq c p) = record T { waits = put T.waits t None }
table_after w T t (Kill p) = record T { waits = killed_waits w T t p }
table_after w T t m = T

-- the source allows what a move carries
abbrev pub PermitsMove : Option Event → Table → Table → Type 0
PermitsMove None T T' = T' ≡ T
PermitsMove (Some e) T T' = Permits e T T'

-- events, with one more before them where there is one
abbrev pub with_event : Option Event → List Event → List Event
with_event None es = es
with_event (Some e) es = e ∷ es
