-- Where each move begins, and whether its thread may sleep.
use Rattle.std.specs.Prelude.{◌≡◌, suc, Option, Some, None}
use Rattle.protocol.specs.Points.{ToExit, ToWait, NoEntry, Owned, Unowned, Spot, OnLock, OnSequence, OnId, Point}
use Rattle.protocol.specs.Points.{Unmade, Runs, EnterPends, EnterTries, ReenterPends, ReenterTries, TakeReads}
use Rattle.protocol.specs.Points.{TakeMarks, TakeSleeps, TakeTries, GotReads, GotLinks, GotHeads, GotUnpends}
use Rattle.protocol.specs.Points.{WaitReads, NotifyAdds, NotifyWakes, BroadcastAdds, BroadcastMarks, BroadcastReads}
use Rattle.protocol.specs.Points.{BroadcastMoves, JoinReads, JoinSleeps, JoinLearns, JoinTakes, MeetsClaimed}
use Rattle.protocol.specs.Points.{LeavePends}
use Rattle.protocol.specs.Points.{LeaveReads, LeaveHeads, LeaveSwaps, LeaveWakes, HasLeft, Dies, Walks, ClearsId}
use Rattle.protocol.specs.Points.{LastWakes}
use Rattle.protocol.specs.Moves.{Move, Own, Begin, Rebegin, Leave, Wait, Notify, Broadcast, Raise, SetPend}
use Rattle.protocol.specs.Moves.{CompareSwapGot, CompareSwapBusy, SetPendHeld, CompareSwapHeld, LoadHeld, LoadFree}
use Rattle.protocol.specs.Moves.{MarkDone, MarkFail, Sleep, Again, FreeGot, FreeFail, ReadHead, SetLink, SetHead}
use Rattle.protocol.specs.Moves.{ClearPend, PendAgain, ReadLink, CutHead, SwapWake, SwapAlone, Wake, Finish, ReadSeq}
use Rattle.protocol.specs.Moves.{SeqSleep, SeqAgain, AddSeq, WakeSeq, AddAll, OrLock, LoadSeq, MoveAll, Kill, Stray}
use Rattle.protocol.specs.Moves.{StraySeq, StrayId, Return, WriteFault, SkipEntry, EntryAlone, EntryWake, PendNone}
use Rattle.protocol.specs.Moves.{PendAlone, PendWake, PendForeign, ClearId, LastWake, Fork, ForkFull, Claim}
use Rattle.protocol.specs.Moves.{ReadClaimed, ClaimTaken, IdGone, IdThere, IdSleep, IdAgain, LearnEnded}
use Rattle.protocol.specs.Moves.{LearnAborted, TakeResult}
use Rattle.protocol.specs.Moves.{CutToLoad, LoadLock, KeepWake, KeepAlone, KeepFail, WakeNone, ClearBit}
use Rattle.protocol.specs.Moves.{ClearFail, PendPassed}
use Rattle.protocol.specs.Points.{LeaveLoads, LeaveKeeps, LeaveClears}

-- the point of the thread that moves; of a fork the thread that is made, whose parent stays where it is
abbrev pub from : Move → Point
from (Own l) = Runs
from (Begin m) = Runs
from (Rebegin m) = Runs
from (Leave m) = Runs
from (Wait c) = Runs
from (Notify c) = Runs
from (Broadcast c) = Runs
from (Raise fault) = Runs
from (SetPend m) = EnterPends m
from (CompareSwapGot m) = EnterTries m
from (CompareSwapBusy m) = EnterTries m
from (SetPendHeld m) = ReenterPends m
from (CompareSwapHeld m) = ReenterTries m
from (LoadHeld m k) = TakeReads m k
from (LoadFree m k) = TakeReads m k
from (MarkDone m v k) = TakeMarks m v k
from (MarkFail m v k) = TakeMarks m v k
from (Sleep m v k) = TakeSleeps m v k
from (Again m v k) = TakeSleeps m v k
from (FreeGot m v k) = TakeTries m v k
from (FreeFail m v k) = TakeTries m v k
from (ReadHead m v) = GotReads m v
from (SetLink m v h) = GotLinks m v h
from (SetHead m v) = GotHeads m v
from (ClearPend m v) = GotUnpends m v
from (PendAgain m r) = LeavePends m r
from (ReadLink m r) = LeaveReads m r
from (CutHead m h r) = LeaveHeads m h r
from (SwapWake m r) = LeaveSwaps m r
from (SwapAlone m r) = LeaveSwaps m r
from (Wake m r woken) = LeaveWakes m r
from (CutToLoad m h r) = LeaveHeads m h r
from (LoadLock m r) = LeaveLoads m r
from (KeepWake m v r) = LeaveKeeps m v r
from (KeepAlone m v r) = LeaveKeeps m v r
from (KeepFail m v r) = LeaveKeeps m v r
from (WakeNone m r) = LeaveWakes m r
from (ClearBit m r) = LeaveClears m r
from (ClearFail m r) = LeaveClears m r
from (Finish m) = HasLeft m ToExit
from (ReadSeq c) = WaitReads c
from (SeqSleep m c s) = HasLeft m (ToWait c s)
from (SeqAgain m c s) = HasLeft m (ToWait c s)
from (AddSeq c) = NotifyAdds c
from (WakeSeq c woken) = NotifyWakes c
from (AddAll c) = BroadcastAdds c
from (OrLock c) = BroadcastMarks c
from (LoadSeq c) = BroadcastReads c
from (MoveAll c s) = BroadcastMoves c s
from (Kill p) = p
from (Stray m p) = p
from (StraySeq c p) = p
from (StrayId q p) = p
from (Return r) = Runs
from (WriteFault cause x) = Dies cause x
from (SkipEntry m end) = Walks (suc m) (Owned m) end
from (EntryAlone m x end) = Walks (suc m) x end
from (EntryWake m x end woken) = Walks (suc m) x end
from (PendNone end) = Walks 0 NoEntry end
from (PendAlone m end) = Walks 0 (Owned m) end
from (PendWake m end woken) = Walks 0 (Owned m) end
from (PendForeign m end woken) = Walks 0 (Unowned m) end
from (PendPassed m end) = Walks 0 (Unowned m) end
from (ClearId end) = ClearsId end
from (LastWake end woken) = LastWakes end
from (Fork parent) = Unmade
from ForkFull = Runs
from (Claim q) = Runs
from (ReadClaimed q) = Runs
from (ClaimTaken q) = MeetsClaimed q
from (IdGone q end) = JoinReads q
from (IdThere q) = JoinReads q
from (IdSleep q) = JoinSleeps q
from (IdAgain q) = JoinSleeps q
from (LearnEnded q end) = JoinLearns q end
from (LearnAborted q end) = JoinLearns q end
from (TakeResult q end) = JoinTakes q end

-- whether the mover sleeps: only one from outside moves a thread that sleeps
abbrev pub Awake : Move → Option Spot → Type 0
Awake (Kill p) s = Unit {0}
Awake (Stray m p) s = s ≡ Some (OnLock m)
Awake (StraySeq c p) s = s ≡ Some (OnSequence c)
Awake (StrayId q p) s = s ≡ Some (OnId q)
Awake m s = s ≡ None
