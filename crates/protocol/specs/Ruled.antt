-- What the shared words answer, and where a thread goes on, under any rules of exits and releases. At the points of the
-- templates all is as in Requests, Answers and Served, but for what a rule changes.
use Rattle.std.specs.Prelude.{◌≡◌, ◌≢◌, ℕ, zero, suc, ◌==◌, if◌then◌else◌, Option, Some, None, ◌⊎◌, length}
use Rattle.meaning.specs.Labels.{End}
use Rattle.meaning.specs.Table.{Table}
use Rattle.protocol.specs.Word.{owner, waiters}
use Rattle.protocol.specs.Rules.{Rules}
use Rattle.protocol.specs.Rules.{ReleaseRule, ClearsWord, KeepsWaiters, TidiesWaiters, DropsOwner}
use Rattle.protocol.specs.Points.{Release, Spot, Point, LeaveHeads, LeaveSwaps, LeaveLoads, LeaveKeeps}
use Rattle.protocol.specs.Points.{LeaveWakes, LeaveClears, HasLeft, Walks}
use Rattle.protocol.specs.World.{World}
use Rattle.protocol.specs.Moves.{Move}
use Rattle.protocol.specs.Cells.{LockOf}
use Rattle.protocol.specs.Requests.{Request, AskLoad, AskCompareSwap, AskWakeOne, AskExitStep, request}
use Rattle.protocol.specs.Steps.{Can, after, go_list}
use Rattle.protocol.specs.Carries.{Event, Acts, event_of, release_label}
use Rattle.protocol.specs.Answers.{WakesOne, Foreign, Abandon, ExitDoes, Serves, next, next_list}
use Rattle.protocol.specs.Served.{MayAnswer, source_event}

-- what thread t asks for at this point
abbrev pub request_under : ReleaseRule → ℕ → Point → Request
request_under u t (LeaveLoads m k) = AskLoad (LockOf m)
request_under u t (LeaveKeeps m v k) = AskCompareSwap (LockOf m) v (waiters v)
request_under u t (LeaveClears m k) = AskCompareSwap (LockOf m) 2147483648 0
request_under u t p = request u t p

-- a step of an exit
abbrev pub ExitDoesUnder : Rules → World → ℕ → Point → World → Type 0
ExitDoesUnder u w t (Walks zero x end) w' = ((w.pending t ≡ 0) × (w' ≡ w))
    ⊎ ((m : ℕ) × (w.pending t ≡ suc m) × (((owner (w.lock m) ≢ t) × Foreign u.exit w m w') ⊎ Abandon w t m w'))
ExitDoesUnder u w t p w' = ExitDoes w t p w'

-- a wake of one sleeper; its answer, how many it found, matters only to a release that asks for it
abbrev pub WakesUnder : ReleaseRule → World → Spot → (answer : ℕ) → World → Type 0
WakesUnder ClearsWord w s r w' = WakesOne w s w'
WakesUnder KeepsWaiters w s r w' = WakesOne w s w'
WakesUnder DropsOwner w s r w' = WakesOne w s w'
WakesUnder TidiesWaiters w s r w' = (d : WakesOne w s w') × (r ≡ length d.woken)

-- what the shared words answer to the request of thread t, and what becomes of them
abbrev pub ServesUnder : Rules → World → ℕ → Point → Request → (answer : ℕ) → World → Type 0
ServesUnder u w t p (AskWakeOne s) r w' = WakesUnder u.release w s r w'
ServesUnder u w t p AskExitStep r w' = (r ≡ 0) × ExitDoesUnder u w t p w'
ServesUnder u w t p a r w' = Serves w t p a r w'

-- where a release goes on once its entry is off the list
abbrev pub released_at : ReleaseRule → ℕ → Release → Point
released_at ClearsWord m k = LeaveSwaps m k
released_at KeepsWaiters m k = LeaveLoads m k
released_at TidiesWaiters m k = LeaveLoads m k
released_at DropsOwner m k = LeaveSwaps m k

-- and once its wake has answered how many it found
abbrev pub woken_at : ReleaseRule → ℕ → Release → (answer : ℕ) → Point
woken_at ClearsWord m k r = HasLeft m k
woken_at KeepsWaiters m k r = HasLeft m k
woken_at DropsOwner m k r = HasLeft m k
woken_at TidiesWaiters m k r = if r == 0 then LeaveClears m k else HasLeft m k

-- where the thread stands after the answer
abbrev pub next_under : Rules → World → End → Point → (answer : ℕ) → Point
next_under u w e (LeaveHeads m h k) r = released_at u.release m k
next_under u w e (LeaveLoads m k) r = LeaveKeeps m r k
next_under u w e (LeaveKeeps m v k) r =
    if r == v then (if waiters v == 0 then HasLeft m k else LeaveWakes m k) else LeaveLoads m k
next_under u w e (LeaveWakes m k) r = woken_at u.release m k r
next_under u w e (LeaveClears m k) r = HasLeft m k
next_under u w e p r = next w e p r

-- what a step carries in the source
abbrev pub source_event_under : World → Table → ℕ → Point → (answer : ℕ) → World → End → Option Event
source_event_under w T t (LeaveKeeps m v k) r w' e = if r == v then Some (Acts t (release_label k m)) else None
source_event_under w T t p r w' e = source_event w T t p r w' e

-- the step of thread t from point p, with this answer and the shared words after it
pub record IsMoveUnder (rules : Rules) (w : World) (t : ℕ) (p : Point) (r : ℕ) (w' : World) : Type 0 where
  pub end : End
  pub move : Move
  pub can : Can w t move
  pub done : after w t move ≡ go_list w' t (next_under rules w end p r) (next_list p (w.at t).list)
  pub possible : MayAnswer p r
  pub carries : (T : Table) → event_of w T t move ≡ source_event_under w T t p r w' end
