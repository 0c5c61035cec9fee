-- A step of a thread that the shared words serve is a move: so level by level, code that asks what its points ask, and
-- goes on as they go on, takes the steps of the protocol and no others.
use Rattle.std.specs.Prelude.{◌≡◌, ◌≢◌, ℕ, zero, suc, ◌==◌, Bool, false, if◌then◌else◌, Option, Some, None}
use Rattle.meaning.specs.Labels.{End, Enters, Joins, Notifies, Broadcasts, Abandons, Ends}
use Rattle.meaning.specs.Table.{Table}
use Rattle.protocol.specs.Points.{Entry, NoEntry, Owned, Unowned, Point, EnterTries, ReenterTries, TakeTries}
use Rattle.protocol.specs.Points.{LeaveSwaps}
use Rattle.protocol.specs.Points.{NotifyWakes, BroadcastMoves, JoinReads, Walks, ClearsId}
use Rattle.protocol.specs.World.{World}
use Rattle.protocol.specs.Moves.{Move}
use Rattle.protocol.specs.Steps.{Can, after, go_list}
use Rattle.protocol.specs.Carries.{Event, Acts, event_of, has_died, resumed_by, taking_label, release_label}
use Rattle.protocol.specs.Answers.{next, next_list}

-- whether the walk of an exit passes the entry of a monitor over: it is the pending one
abbrev pub is_pending : Entry → ℕ → Bool
is_pending NoEntry m = false
is_pending (Owned n) m = n == m
is_pending (Unowned n) m = false

-- what the end of the walk carries: the abandoning of a pending entry that the thread owns
abbrev pub pending_event : ℕ → Entry → Option Event
pending_event t NoEntry = None
pending_event t (Owned m) = Some (Acts t (Abandons m))
pending_event t (Unowned m) = None

-- what a step carries in the source: by its point, its answer and the words after it
abbrev pub source_event : World → Table → ℕ → Point → (answer : ℕ) → World → End → Option Event
source_event w T t (EnterTries m) r w' e = if r == 0 then Some (Acts t (Enters m false)) else None
source_event w T t (TakeTries m v k) r w' e = if r == v then Some (Acts t (taking_label k m (has_died v))) else None
source_event w T t (LeaveSwaps m k) r w' e = Some (Acts t (release_label k m))
source_event w T t (NotifyWakes c) r w' e = Some (Acts t (Notifies c (resumed_by w T c w'.asleep)))
source_event w T t (BroadcastMoves c s) r w' e = Some (Acts t (Broadcasts c (resumed_by w T c w'.asleep)))
source_event w T t (JoinReads q) r w' e = if r == 0 then Some (Acts t (Joins q e)) else None
source_event w T t (Walks zero x end) r w' e = pending_event t x
source_event w T t (Walks (suc m) x end) r w' e = if is_pending x m then None else Some (Acts t (Abandons m))
source_event w T t (ClearsId end) r w' e = Some (Acts t (Ends end))
source_event w T t p r w' e = None

-- the lock word of a monitor that the thread holds isn't 0
abbrev pub MayAnswer : Point → (answer : ℕ) → Type 0
MayAnswer (ReenterTries m) r = r ≢ 0
MayAnswer p r = Unit {0}

-- the step of thread t from point p, with this answer and the shared words after it
pub record IsMove (w : World) (t : ℕ) (p : Point) (r : ℕ) (w' : World) : Type 0 where
  pub end : End
  pub move : Move
  pub can : Can w t move
  pub done : after w t move ≡ go_list w' t (next w end p r) (next_list p (w.at t).list)
  pub possible : MayAnswer p r
  pub carries : (T : Table) → event_of w T t move ≡ source_event w T t p r w' end
