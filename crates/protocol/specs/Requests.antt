-- What a thread asks for at each point.
use Rattle.std.specs.Prelude.{ℕ, suc, ◌-◌}
use Rattle.program.specs.declared.kinds.Member.{Member}
use Rattle.meaning.specs.Labels.{Cause}
use Rattle.protocol.specs.Word.{with_waiters}
use Rattle.protocol.specs.Rules.{ReleaseRule, ClearsWord, KeepsWaiters, TidiesWaiters, DropsOwner}
use Rattle.protocol.specs.Points.{ToExit, ToWait, Spot, OnLock, OnSequence, OnId, Point, EnterPends, EnterTries}
use Rattle.protocol.specs.Points.{ReenterPends, ReenterTries, TakeReads, TakeMarks, TakeSleeps, TakeTries, GotReads}
use Rattle.protocol.specs.Points.{GotLinks, GotHeads, GotUnpends, WaitReads, NotifyAdds, NotifyWakes, BroadcastAdds}
use Rattle.protocol.specs.Points.{BroadcastMarks, BroadcastReads, BroadcastMoves, JoinReads, JoinSleeps, JoinLearns}
use Rattle.protocol.specs.Points.{JoinTakes, LeavePends, LeaveReads, LeaveHeads, LeaveSwaps, LeaveWakes, HasLeft}
use Rattle.protocol.specs.Points.{Dies, Walks, ClearsId, LastWakes}
use Rattle.protocol.specs.Cells.{Cell, LockOf, LinkOf, HeadOf, PendingOf, IdOf, ResultOf, OutcomeOf, SequenceOf}

-- a request for one shared operation, by the names of words
pub data Request : Type 0 where
  -- none that is determined: it runs its own code, isn't made, or has ended
  AskNothing : Request
  AskLoad : Cell → Request
  AskStore : Cell → (value : ℕ) → Request
  AskSwap : Cell → (value : ℕ) → Request
  AskCompareSwap : Cell → (expected new : ℕ) → Request
  -- sets the waiters bit of a lock word
  AskOrWaiters : Cell → Request
  AskAddOne : Cell → Request
  -- adds a number, modulo 2^32
  AskAdd : Cell → (value : ℕ) → Request
  AskWait : Spot → (expected : ℕ) → Request
  AskWakeOne : Spot → Request
  -- from the word of a condition to the lock of its monitor: none is woken, all are moved
  AskRequeue : (condition : Member) (expected : ℕ) → Request
  -- the writing of its fault; and a step of its exit
  AskFault : Cause → Request
  AskExitStep : Request

-- how a release of this rule gives a lock up where it does so in one step
abbrev pub given_up : ReleaseRule → ℕ → ℕ → Request
given_up ClearsWord t m = AskSwap (LockOf m) 0
given_up KeepsWaiters t m = AskNothing
given_up TidiesWaiters t m = AskNothing
given_up DropsOwner t m = AskAdd (LockOf m) (4294967296 - t)

-- what thread t asks for at this point, where locks are given up by this rule
abbrev pub request : ReleaseRule → ℕ → Point → Request
request u t (EnterPends m) = AskStore (PendingOf t) (suc m)
request u t (EnterTries m) = AskCompareSwap (LockOf m) 0 t
request u t (ReenterPends m) = AskStore (PendingOf t) (suc m)
request u t (ReenterTries m) = AskCompareSwap (LockOf m) 0 t
request u t (TakeReads m k) = AskLoad (LockOf m)
request u t (TakeMarks m v k) = AskCompareSwap (LockOf m) v (with_waiters v)
request u t (TakeSleeps m v k) = AskWait (OnLock m) v
request u t (TakeTries m v k) = AskCompareSwap (LockOf m) v (with_waiters t)
request u t (GotReads m v) = AskLoad (HeadOf t)
request u t (GotLinks m v h) = AskStore (LinkOf m) h
request u t (GotHeads m v) = AskStore (HeadOf t) (suc m)
request u t (GotUnpends m v) = AskStore (PendingOf t) 0
request u t (WaitReads c) = AskLoad (SequenceOf c)
request u t (NotifyAdds c) = AskAddOne (SequenceOf c)
request u t (NotifyWakes c) = AskWakeOne (OnSequence c)
request u t (BroadcastAdds c) = AskAddOne (SequenceOf c)
request u t (BroadcastMarks c) = AskOrWaiters (LockOf c.monitor)
request u t (BroadcastReads c) = AskLoad (SequenceOf c)
request u t (BroadcastMoves c s) = AskRequeue c s
request u t (JoinReads q) = AskLoad (IdOf q)
request u t (JoinSleeps q) = AskWait (OnId q) q
request u t (JoinLearns q end) = AskLoad (OutcomeOf q)
request u t (JoinTakes q end) = AskLoad (ResultOf q)
request u t (LeavePends m r) = AskStore (PendingOf t) (suc m)
request u t (LeaveReads m r) = AskLoad (LinkOf m)
request u t (LeaveHeads m h r) = AskStore (HeadOf t) h
request u t (LeaveSwaps m r) = given_up u t m
request u t (LeaveWakes m r) = AskWakeOne (OnLock m)
request u t (HasLeft m ToExit) = AskStore (PendingOf t) 0
request u t (HasLeft m (ToWait c s)) = AskWait (OnSequence c) s
request u t (Dies cause x) = AskFault cause
request u t (Walks a x end) = AskExitStep
request u t (ClearsId end) = AskExitStep
request u t (LastWakes end) = AskExitStep
request u t p = AskNothing
