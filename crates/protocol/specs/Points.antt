-- Where a thread stands in the protocol: one constructor for each shared step that it is about to take. Monitors go by
-- their numbers; an entry of a robust list is a word that holds 0 for none, and m + 1 for the entry of monitor m.
use Rattle.std.specs.Prelude.{ℕ, suc, List}
use Rattle.program.specs.declared.kinds.Member.{Member}
use Rattle.meaning.specs.Labels.{Cause, End}

-- for what a lock is taken: to enter, to enter a monitor that the thread holds already, or to go on after a wait
pub data Purpose : Type 0 where
  ToEnter : Purpose
  ToReenter : Purpose
  ToResume : (condition : Member) → Purpose

-- for what it is given up: to exit, or to wait with the sequence number that was read
pub data Release : Type 0 where
  ToExit : Release
  ToWait : (condition : Member) (number : ℕ) → Release

-- what an exit finds at the pending entry: none, a monitor that the thread owns, or one that it doesn't
pub data Entry : Type 0 where
  NoEntry : Entry
  Owned : (monitor : ℕ) → Entry
  Unowned : (monitor : ℕ) → Entry

-- the word on which a thread sleeps
pub data Spot : Type 0 where
  OnLock : (monitor : ℕ) → Spot
  OnSequence : (condition : Member) → Spot
  OnId : (process : ℕ) → Spot

-- where a thread stands
pub data Point : Type 0 where
  -- the thread wasn't made yet
  Unmade : Point
  -- in its own code, outside all templates
  Runs : Point
  -- entering: the pending word, and the first compare-and-swap; also of a monitor that it holds
  EnterPends : (monitor : ℕ) → Point
  EnterTries : (monitor : ℕ) → Point
  ReenterPends : (monitor : ℕ) → Point
  ReenterTries : (monitor : ℕ) → Point
  -- taking, with the lock word that was seen
  TakeReads : (monitor : ℕ) → Purpose → Point
  TakeMarks : (monitor seen : ℕ) → Purpose → Point
  TakeSleeps : (monitor seen : ℕ) → Purpose → Point
  TakeTries : (monitor seen : ℕ) → Purpose → Point
  -- got: the entry goes to the front of the robust list, and the pending word is cleared
  GotReads : (monitor seen : ℕ) → Point
  GotLinks : (monitor seen first : ℕ) → Point
  GotHeads : (monitor seen : ℕ) → Point
  GotUnpends : (monitor seen : ℕ) → Point
  -- a wait reads the sequence word first
  WaitReads : (condition : Member) → Point
  NotifyAdds : (condition : Member) → Point
  NotifyWakes : (condition : Member) → Point
  BroadcastAdds : (condition : Member) → Point
  BroadcastMarks : (condition : Member) → Point
  BroadcastReads : (condition : Member) → Point
  BroadcastMoves : (condition : Member) (number : ℕ) → Point
  -- joining a process that it claimed, and learning how it is over
  JoinReads : (child : ℕ) → Point
  JoinSleeps : (child : ℕ) → Point
  JoinLearns : (child : ℕ) → End → Point
  JoinTakes : (child : ℕ) → End → Point
  -- it was refused a process that was claimed before, and its fault isn't met yet
  MeetsClaimed : (child : ℕ) → Point
  -- leaving: the entry goes from the list, the lock word is swapped for 0, and one sleeper is woken where it had
  -- waiters
  LeavePends : (monitor : ℕ) → Release → Point
  LeaveReads : (monitor : ℕ) → Release → Point
  LeaveHeads : (monitor next : ℕ) → Release → Point
  LeaveSwaps : (monitor : ℕ) → Release → Point
  -- or where the waiters bit is kept: the word is loaded, compared and swapped for what is left of the bit; and, where
  -- the wake found nobody, the bit may be cleared
  LeaveLoads : (monitor : ℕ) → Release → Point
  LeaveKeeps : (monitor seen : ℕ) → Release → Point
  LeaveWakes : (monitor : ℕ) → Release → Point
  LeaveClears : (monitor : ℕ) → Release → Point
  HasLeft : (monitor : ℕ) → Release → Point
  -- dying, before its fault is written
  Dies : Cause → Entry → Point
  -- its exit: at an entry of its list, or where that is 0 at the pending entry; the id word; the last wake; ended
  Walks : (entry : ℕ) → Entry → End → Point
  ClearsId : End → Point
  LastWakes : End → Point
  HasEnded : End → Point

-- the robust entry that is pending while the lock of m is taken for this purpose
abbrev pub taking_entry : ℕ → Purpose → Entry
taking_entry m ToEnter = Unowned m
taking_entry m ToReenter = Owned m
taking_entry m (ToResume c) = Unowned m

-- what an exit that begins at this point finds at the pending entry
abbrev pub entry_at : Point → Entry
entry_at (EnterTries m) = Unowned m
entry_at (ReenterTries m) = Owned m
entry_at (TakeReads m k) = taking_entry m k
entry_at (TakeMarks m v k) = taking_entry m k
entry_at (TakeSleeps m v k) = taking_entry m k
entry_at (TakeTries m v k) = taking_entry m k
entry_at (GotReads m v) = Owned m
entry_at (GotLinks m v h) = Owned m
entry_at (GotHeads m v) = Owned m
entry_at (GotUnpends m v) = Owned m
entry_at (LeaveReads m r) = Owned m
entry_at (LeaveHeads m h r) = Owned m
entry_at (LeaveSwaps m r) = Owned m
entry_at (LeaveLoads m r) = Owned m
entry_at (LeaveKeeps m v r) = Owned m
entry_at (LeaveWakes m r) = Unowned m
entry_at (LeaveClears m r) = Unowned m
entry_at (HasLeft m r) = Unowned m
entry_at (Dies cause x) = x
entry_at (Walks a x end) = x
entry_at p = NoEntry

-- the word that holds it
abbrev pub entry_word : Entry → ℕ
entry_word NoEntry = 0
entry_word (Owned m) = suc m
entry_word (Unowned m) = suc m

-- a thread that can be killed: it was made, and isn't dying, exiting or ended
abbrev pub IsLive : Point → Type 0
IsLive Unmade = ⊥
IsLive (Dies cause x) = ⊥
IsLive (Walks a x end) = ⊥
IsLive (ClearsId end) = ⊥
IsLive (LastWakes end) = ⊥
IsLive (HasEnded end) = ⊥
IsLive p = Unit {0}

-- a thread: its point, and the monitors of its robust list, innermost first
pub record Thread : Type 0 where
  pub point : Point
  pub list : List ℕ

-- a thread at this point, with the monitors of its robust list
abbrev pub thread_at : Point → List ℕ → Thread
thread_at p l = record { point = p; list = l }
