-- When a move can be made, and what it makes of the world.
use Rattle.std.specs.Prelude.{◌≡◌, ℕ, suc, ◌+◌, Option, Some, None, List, [], ◌∷◌}
use Rattle.words.specs.Outcomes.{cause_number}
use Rattle.words.specs.Updates.{put}
use Rattle.words.specs.Signed.{signed_of}
use Rattle.words.specs.declared.outcome.Fault.TheVariants.{HandleNotJoinable, ProcessTableFull}
use Rattle.meaning.specs.Labels.{Faulted, Killed, End, Ended, Aborted}
use Rattle.protocol.specs.Word.{waiters, with_waiters, died_word}
use Rattle.protocol.specs.Points.{ToEnter, ToReenter, ToResume, ToExit, ToWait, NoEntry, Owned, OnLock, OnSequence}
use Rattle.protocol.specs.Points.{OnId, Point, Runs, EnterPends, EnterTries, ReenterPends, ReenterTries, TakeReads}
use Rattle.protocol.specs.Points.{TakeMarks, TakeSleeps, TakeTries, GotReads, GotLinks, GotHeads, GotUnpends}
use Rattle.protocol.specs.Points.{WaitReads, NotifyAdds, NotifyWakes, BroadcastAdds, BroadcastMarks, BroadcastReads}
use Rattle.protocol.specs.Points.{BroadcastMoves, JoinReads, JoinSleeps, JoinLearns, JoinTakes, MeetsClaimed}
use Rattle.protocol.specs.Points.{LeavePends}
use Rattle.protocol.specs.Points.{LeaveReads, LeaveHeads, LeaveSwaps, LeaveWakes, HasLeft, Dies, Walks, ClearsId}
use Rattle.protocol.specs.Points.{LastWakes, HasEnded, entry_at, thread_at}
use Rattle.protocol.specs.World.{World, put_sequence, awake_after, requeued_sleep, tail}
use Rattle.protocol.specs.Moves.{Move, Begin, Rebegin, Leave, Wait, Notify, Broadcast, Raise, SetPend, CompareSwapGot}
use Rattle.protocol.specs.Moves.{CompareSwapBusy, SetPendHeld, CompareSwapHeld, LoadHeld, LoadFree, MarkDone}
use Rattle.protocol.specs.Moves.{MarkFail, Sleep, Again, FreeGot, FreeFail, ReadHead, SetLink, SetHead, ClearPend}
use Rattle.protocol.specs.Moves.{PendAgain, ReadLink, CutHead, SwapWake, SwapAlone, Wake, Finish, ReadSeq, SeqSleep}
use Rattle.protocol.specs.Moves.{SeqAgain, AddSeq, WakeSeq, AddAll, OrLock, LoadSeq, MoveAll, Kill, Stray, StraySeq}
use Rattle.protocol.specs.Moves.{StrayId, Return, WriteFault, SkipEntry, EntryAlone, EntryWake, PendNone, PendAlone}
use Rattle.protocol.specs.Moves.{PendWake, PendForeign, ClearId, LastWake, Fork, ForkFull, Claim, ClaimTaken, IdGone}
use Rattle.protocol.specs.Moves.{ReadClaimed, IdThere, IdSleep, IdAgain, LearnEnded, LearnAborted, TakeResult}
use Rattle.protocol.specs.Moves.{CutToLoad, LoadLock, KeepWake, KeepAlone, KeepFail, WakeNone, ClearBit}
use Rattle.protocol.specs.Moves.{ClearFail, PendPassed}
use Rattle.protocol.specs.Points.{LeaveLoads, LeaveKeeps, LeaveClears}
use Rattle.protocol.specs.Origins.{from, Awake}
use Rattle.protocol.specs.Finds.{Finds, HasNumber}
use Rattle.protocol.specs.Rules.{left_by}

-- thread t can make this move
pub record Can (w : World) (t : ℕ) (m : Move) : Type 0 where
  pub number : HasNumber w t m
  pub awake : Awake m (w.asleep t)
  pub stands : (w.at t).point ≡ from m
  pub finds : Finds w t m

-- thread t goes to a point, and its robust list becomes this
abbrev pub go_list : World → ℕ → Point → List ℕ → World
go_list w t p l = record w { at = put w.at t (thread_at p l) }

-- the thread stands at another point
abbrev pub go : World → ℕ → Point → World
go w t p = go_list w t p (w.at t).list

-- the outcome and the result that a return writes, and how the process will be over
abbrev pub result_after : Option ℕ → ℕ → ℕ
result_after None old = old
result_after (Some v) old = v

-- how thread t ends by a return, with a value or without
abbrev pub returned_end : World → ℕ → Option ℕ → End
returned_end w t r = Ended (signed_of (result_after r (w.result t)))

-- the world behind a move of thread t
abbrev pub after : World → ℕ → Move → World
after w t (Begin m) = go w t (EnterPends m)
after w t (Rebegin m) = go w t (ReenterPends m)
after w t (Leave m) = go w t (LeavePends m ToExit)
after w t (Wait c) = go w t (WaitReads c)
after w t (Notify c) = go w t (NotifyAdds c)
after w t (Broadcast c) = go w t (BroadcastAdds c)
after w t (Raise fault) = go w t (Dies (Faulted fault) NoEntry)
after w t (SetPend m) = go (record w { pending = put w.pending t (suc m) }) t (EnterTries m)
after w t (CompareSwapGot m) = go (record w { lock = put w.lock m t }) t (GotReads m 0)
after w t (CompareSwapBusy m) = go w t (TakeReads m ToEnter)
after w t (SetPendHeld m) = go (record w { pending = put w.pending t (suc m) }) t (ReenterTries m)
after w t (CompareSwapHeld m) = go w t (TakeReads m ToReenter)
after w t (LoadHeld m k) = go w t (TakeMarks m (w.lock m) k)
after w t (LoadFree m k) = go w t (TakeTries m (w.lock m) k)
after w t (MarkDone m v k) = go (record w { lock = put w.lock m (with_waiters v) }) t (TakeSleeps m (with_waiters v) k)
after w t (MarkFail m v k) = go w t (TakeReads m k)
after w t (Sleep m v k) = go (record w { asleep = put w.asleep t (Some (OnLock m)) }) t (TakeReads m k)
after w t (Again m v k) = go w t (TakeReads m k)
after w t (FreeGot m v k) = go (record w { lock = put w.lock m (with_waiters t) }) t (GotReads m v)
after w t (FreeFail m v k) = go w t (TakeReads m k)
after w t (ReadHead m v) = go w t (GotLinks m v (w.head t))
after w t (SetLink m v h) = go (record w { link = put w.link m h }) t (GotHeads m v)
after w t (SetHead m v) = go_list (record w { head = put w.head t (suc m) }) t (GotUnpends m v) (m ∷ (w.at t).list)
after w t (ClearPend m v) = go (record w { pending = put w.pending t 0 }) t Runs
after w t (PendAgain m r) = go (record w { pending = put w.pending t (suc m) }) t (LeaveReads m r)
after w t (ReadLink m r) = go w t (LeaveHeads m (w.link m) r)
after w t (CutHead m h r) = go_list (record w { head = put w.head t h }) t (LeaveSwaps m r) (tail (w.at t).list)
after w t (SwapWake m r) =
    go (record w { lock = put w.lock m (left_by w.rules.release (w.lock m)) }) t (LeaveWakes m r)
after w t (SwapAlone m r) =
    go (record w { lock = put w.lock m (left_by w.rules.release (w.lock m)) }) t (HasLeft m r)
after w t (Wake m r woken) = go (record w { asleep = awake_after w.asleep woken }) t (HasLeft m r)
after w t (CutToLoad m h r) = go_list (record w { head = put w.head t h }) t (LeaveLoads m r) (tail (w.at t).list)
after w t (LoadLock m r) = go w t (LeaveKeeps m (w.lock m) r)
after w t (KeepWake m v r) = go (record w { lock = put w.lock m (waiters v) }) t (LeaveWakes m r)
after w t (KeepAlone m v r) = go (record w { lock = put w.lock m (waiters v) }) t (HasLeft m r)
after w t (KeepFail m v r) = go w t (LeaveLoads m r)
after w t (WakeNone m r) = go w t (LeaveClears m r)
after w t (ClearBit m r) = go (record w { lock = put w.lock m 0 }) t (HasLeft m r)
after w t (ClearFail m r) = go w t (HasLeft m r)
after w t (Finish m) = go (record w { pending = put w.pending t 0 }) t Runs
after w t (ReadSeq c) = go w t (LeavePends c.monitor (ToWait c (w.sequence c)))
after w t (SeqSleep m c s) =
    go (record w { asleep = put w.asleep t (Some (OnSequence c)) }) t (TakeReads m (ToResume c))
after w t (SeqAgain m c s) = go w t (TakeReads m (ToResume c))
after w t (AddSeq c) = go (record w { sequence = put_sequence w.sequence c (w.sequence c + 1) }) t (NotifyWakes c)
after w t (WakeSeq c woken) = go (record w { asleep = awake_after w.asleep woken }) t Runs
after w t (AddAll c) = go (record w { sequence = put_sequence w.sequence c (w.sequence c + 1) }) t (BroadcastMarks c)
after w t (OrLock c) =
    go (record w { lock = put w.lock c.monitor (with_waiters (w.lock c.monitor)) }) t (BroadcastReads c)
after w t (LoadSeq c) = go w t (BroadcastMoves c (w.sequence c))
after w t (MoveAll c s) = go (record w { asleep = requeued_sleep w.asleep c }) t Runs
after w t (Kill p) = go (record w { asleep = put w.asleep t None }) t (Dies Killed (entry_at p))
after w t (Stray m p) = go (record w { asleep = put w.asleep t None }) t p
after w t (StraySeq c p) = go (record w { asleep = put w.asleep t None }) t p
after w t (StrayId q p) = go (record w { asleep = put w.asleep t None }) t p
after w t (Return r) =
    go (record w {
      result =
          put w.result t (result_after r (w.result t));
      outcome = put w.outcome t 16;
    }) t (Walks (w.head t) NoEntry (returned_end w t r))
after w t (WriteFault cause x) =
    go (record w { outcome = put w.outcome t (cause_number cause) }) t (Walks (w.head t) x (Aborted cause))
after w t (SkipEntry m end) = go_list w t (Walks (w.link m) (Owned m) end) (tail (w.at t).list)
after w t (EntryAlone m x end) =
    go_list (record w { lock = put w.lock m (died_word (w.lock m)) }) t (Walks (w.link m) x end) (tail (w.at t).list)
after w t (EntryWake m x end woken) =
    go_list (record w {
      lock =
          put w.lock m (died_word (w.lock m));
      asleep = awake_after w.asleep woken;
    }) t (Walks (w.link m) x end) (tail (w.at t).list)
after w t (PendNone end) = go w t (ClearsId end)
after w t (PendAlone m end) = go (record w { lock = put w.lock m (died_word (w.lock m)) }) t (ClearsId end)
after w t (PendWake m end woken) =
    go (record w { lock = put w.lock m (died_word (w.lock m)); asleep = awake_after w.asleep woken }) t (ClearsId end)
after w t (PendForeign m end woken) = go (record w { asleep = awake_after w.asleep woken }) t (ClearsId end)
after w t (PendPassed m end) = go w t (ClearsId end)
after w t (ClearId end) = go (record w { id = put w.id t 0 }) t (LastWakes end)
after w t (LastWake end woken) = go (record w { asleep = awake_after w.asleep woken }) t (HasEnded end)
after w t (Fork parent) = go_list (record w { id = put w.id t t; made = suc w.made }) t Runs []
after w t ForkFull = go w t (Dies (Faulted ProcessTableFull) NoEntry)
after w t (Claim q) = go (record w { claim = put w.claim q 1 }) t (JoinReads q)
after w t (ReadClaimed q) = go (record w { claim = put w.claim q 1 }) t (MeetsClaimed q)
after w t (ClaimTaken q) = go w t (Dies (Faulted HandleNotJoinable) NoEntry)
after w t (IdGone q end) = go w t (JoinLearns q end)
after w t (IdThere q) = go w t (JoinSleeps q)
after w t (IdSleep q) = go (record w { asleep = put w.asleep t (Some (OnId q)) }) t (JoinReads q)
after w t (IdAgain q) = go w t (JoinReads q)
after w t (LearnEnded q end) = go w t (JoinTakes q end)
after w t (LearnAborted q end) = go w t Runs
after w t (TakeResult q end) = go w t Runs
after w t m = go w t Runs
