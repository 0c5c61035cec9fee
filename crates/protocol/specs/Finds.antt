-- What each move finds in the world.
use Rattle.std.specs.Prelude.{◌≡◌, ◌≢◌, ℕ, suc, ◌<◌, ◌≤◌, true, false, None, [], ◌∷◌, ◌⊎◌}
use Rattle.words.specs.Outcomes.{cause_number}
use Rattle.words.specs.Signed.{signed_of}
use Rattle.meaning.specs.Labels.{End, Ended, Aborted, Label, Alone, Stores}
use Rattle.protocol.specs.Word.{owner, waiters}
use Rattle.protocol.specs.Points.{Owned, OnLock, OnSequence, OnId, Runs, LastWakes, HasEnded, IsLive, Thread}
use Rattle.protocol.specs.World.{World, mem, tail, IsWake}
use Rattle.protocol.specs.Moves.{Move, Own, Begin, Rebegin, Leave, Wait, Notify, Broadcast, CompareSwapGot}
use Rattle.protocol.specs.Moves.{CompareSwapBusy, CompareSwapHeld, LoadHeld, LoadFree, MarkDone, MarkFail, Sleep}
use Rattle.protocol.specs.Moves.{Again, FreeGot, FreeFail, SwapWake, SwapAlone, Wake, SeqSleep, SeqAgain, WakeSeq}
use Rattle.protocol.specs.Moves.{MoveAll, Kill, EntryAlone, EntryWake, PendAlone, PendWake, PendForeign, LastWake}
use Rattle.protocol.specs.Moves.{Fork, ForkFull, Claim, ReadClaimed, IdGone, IdThere, IdSleep, IdAgain, LearnEnded}
use Rattle.protocol.specs.Moves.{LearnAborted, CutHead}
use Rattle.protocol.specs.Moves.{CutToLoad, KeepWake, KeepAlone, KeepFail, WakeNone, ClearBit}
use Rattle.protocol.specs.Moves.{ClearFail, PendPassed}
use Rattle.protocol.specs.Rules.{Wakes, Passes, Swaps, Keeps, Tidies}

-- a thread's innermost monitor
abbrev pub HoldsFirst : Thread → ℕ → Type 0
HoldsFirst thread m = thread.list ≡ m ∷ tail thread.list

-- the words tell how a process is over
abbrev pub CarriesFinding : End → (outcome result : ℕ) → Type 0
CarriesFinding (Ended z) outcome result = (outcome ≡ 16) × (signed_of result ≡ z)
CarriesFinding (Aborted cause) outcome result = outcome ≡ cause_number cause

-- the labels of a thread's own code: a store into a variable of a monitor is for a thread that has the monitor
abbrev pub IsOwn : Thread → Label → Type 0
IsOwn thread (Alone kind) = Unit {0}
IsOwn thread (Stores m) = mem m thread.list ≡ true
IsOwn thread l = ⊥

-- what has to hold in the world for thread t to make this move
abbrev pub Finds : World → ℕ → Move → Type 0
Finds w t (Own l) = IsOwn (w.at t) l
Finds w t (Begin m) = mem m (w.at t).list ≡ false
Finds w t (Rebegin m) = mem m (w.at t).list ≡ true
Finds w t (Leave m) = HoldsFirst (w.at t) m
Finds w t (Wait c) = HoldsFirst (w.at t) c.monitor
Finds w t (Notify c) = HoldsFirst (w.at t) c.monitor
Finds w t (Broadcast c) = HoldsFirst (w.at t) c.monitor
Finds w t (CompareSwapGot m) = w.lock m ≡ 0
Finds w t (CompareSwapBusy m) = w.lock m ≢ 0
Finds w t (CompareSwapHeld m) = w.lock m ≢ 0
Finds w t (LoadHeld m k) = owner (w.lock m) ≢ 0
Finds w t (LoadFree m k) = owner (w.lock m) ≡ 0
Finds w t (MarkDone m v k) = w.lock m ≡ v
Finds w t (MarkFail m v k) = w.lock m ≢ v
Finds w t (Sleep m v k) = w.lock m ≡ v
Finds w t (Again m v k) = w.lock m ≢ v
Finds w t (FreeGot m v k) = w.lock m ≡ v
Finds w t (FreeFail m v k) = w.lock m ≢ v
Finds w t (CutHead m h r) = Swaps w.rules.release
Finds w t (CutToLoad m h r) = Keeps w.rules.release
Finds w t (KeepWake m v r) = (w.lock m ≡ v) × (waiters v ≢ 0)
Finds w t (KeepAlone m v r) = (w.lock m ≡ v) × (waiters v ≡ 0)
Finds w t (KeepFail m v r) = w.lock m ≢ v
Finds w t (WakeNone m r) = Tidies w.rules.release × IsWake w.asleep (OnLock m) 1 []
Finds w t (ClearBit m r) = w.lock m ≡ 2147483648
Finds w t (ClearFail m r) = w.lock m ≢ 2147483648
Finds w t (SwapWake m r) = waiters (w.lock m) ≢ 0
Finds w t (SwapAlone m r) = waiters (w.lock m) ≡ 0
Finds w t (Wake m r woken) = IsWake w.asleep (OnLock m) 1 woken
Finds w t (SeqSleep m c s) = w.sequence c ≡ s
Finds w t (SeqAgain m c s) = w.sequence c ≢ s
Finds w t (WakeSeq c woken) = IsWake w.asleep (OnSequence c) 1 woken
Finds w t (MoveAll c s) = w.sequence c ≡ s
Finds w t (Kill p) = IsLive p
Finds w t (EntryAlone m x end) = (x ≢ Owned m) × (waiters (w.lock m) ≡ 0)
Finds w t (EntryWake m x end woken) = (x ≢ Owned m) × (waiters (w.lock m) ≢ 0) × IsWake w.asleep (OnLock m) 1 woken
Finds w t (PendAlone m end) = waiters (w.lock m) ≡ 0
Finds w t (PendWake m end woken) = (waiters (w.lock m) ≢ 0) × IsWake w.asleep (OnLock m) 1 woken
Finds w t (PendForeign m end woken) = Wakes w.rules.exit (w.lock m) × IsWake w.asleep (OnLock m) 1 woken
Finds w t (PendPassed m end) = Passes w.rules.exit (w.lock m)
Finds w t (LastWake end woken) = IsWake w.asleep (OnId t) 1 woken
-- the thread that is made has the next number; its parent runs
Finds w t (Fork parent) =
    (t ≡ suc w.made) × (w.made < w.most) × ((w.at parent).point ≡ Runs) × (w.asleep parent ≡ None)
Finds w t ForkFull = w.most ≤ w.made
-- a handle that isn't empty names a process that was made
Finds w t (Claim q) = (0 < q) × (q ≤ w.made) × (w.claim q ≡ 0)
Finds w t (ReadClaimed q) = (0 < q) × (q ≤ w.made) × (w.claim q ≢ 0)
Finds w t (IdGone q end) = (w.id q ≡ 0) × (((w.at q).point ≡ LastWakes end) ⊎ ((w.at q).point ≡ HasEnded end))
Finds w t (IdThere q) = w.id q ≢ 0
Finds w t (IdSleep q) = w.id q ≡ q
Finds w t (IdAgain q) = w.id q ≢ q
Finds w t (LearnEnded q end) = w.outcome q ≡ 16
Finds w t (LearnAborted q end) = w.outcome q ≢ 16
Finds w t m = Unit {0}

-- the mover has the number of a thread that was made; a fork's gets it
abbrev pub HasNumber : World → ℕ → Move → Type 0
HasNumber w t (Fork parent) = Unit {0}
HasNumber w t m = (0 < t) × (t ≤ w.made)
