-- The moves of threads, one for each outcome of a shared step.
use Rattle.std.specs.Prelude.{ℕ, Option, List}
use Rattle.words.specs.declared.outcome.Fault.{Fault}
use Rattle.program.specs.declared.kinds.Member.{Member}
use Rattle.meaning.specs.Labels.{Cause, End, Label}
use Rattle.protocol.specs.Points.{Purpose, Release, Entry, Point}

-- what a shared step of a thread does in the protocol
pub data Move : Type 0 where
  -- steps of its own code, which touch none of the protocol's words
  Own : Label → Move
  -- it takes up a template, for itself
  Begin : (monitor : ℕ) → Move
  Rebegin : (monitor : ℕ) → Move
  Leave : (monitor : ℕ) → Move
  Wait : (condition : Member) → Move
  Notify : (condition : Member) → Move
  Broadcast : (condition : Member) → Move
  Raise : Fault → Move
  -- entering and taking
  SetPend : (monitor : ℕ) → Move
  CompareSwapGot : (monitor : ℕ) → Move
  CompareSwapBusy : (monitor : ℕ) → Move
  SetPendHeld : (monitor : ℕ) → Move
  CompareSwapHeld : (monitor : ℕ) → Move
  LoadHeld : (monitor : ℕ) → Purpose → Move
  LoadFree : (monitor : ℕ) → Purpose → Move
  MarkDone : (monitor seen : ℕ) → Purpose → Move
  MarkFail : (monitor seen : ℕ) → Purpose → Move
  Sleep : (monitor seen : ℕ) → Purpose → Move
  Again : (monitor seen : ℕ) → Purpose → Move
  FreeGot : (monitor seen : ℕ) → Purpose → Move
  FreeFail : (monitor seen : ℕ) → Purpose → Move
  ReadHead : (monitor seen : ℕ) → Move
  SetLink : (monitor seen first : ℕ) → Move
  SetHead : (monitor seen : ℕ) → Move
  ClearPend : (monitor seen : ℕ) → Move
  -- leaving
  PendAgain : (monitor : ℕ) → Release → Move
  ReadLink : (monitor : ℕ) → Release → Move
  CutHead : (monitor next : ℕ) → Release → Move
  SwapWake : (monitor : ℕ) → Release → Move
  SwapAlone : (monitor : ℕ) → Release → Move
  Wake : (monitor : ℕ) → Release → (woken : List ℕ) → Move
  -- leaving, and keeping the waiters bit
  CutToLoad : (monitor next : ℕ) → Release → Move
  LoadLock : (monitor : ℕ) → Release → Move
  KeepWake : (monitor seen : ℕ) → Release → Move
  KeepAlone : (monitor seen : ℕ) → Release → Move
  KeepFail : (monitor seen : ℕ) → Release → Move
  WakeNone : (monitor : ℕ) → Release → Move
  ClearBit : (monitor : ℕ) → Release → Move
  ClearFail : (monitor : ℕ) → Release → Move
  Finish : (monitor : ℕ) → Move
  -- conditions
  ReadSeq : (condition : Member) → Move
  SeqSleep : (monitor : ℕ) (condition : Member) (number : ℕ) → Move
  SeqAgain : (monitor : ℕ) (condition : Member) (number : ℕ) → Move
  AddSeq : (condition : Member) → Move
  WakeSeq : (condition : Member) (woken : List ℕ) → Move
  AddAll : (condition : Member) → Move
  OrLock : (condition : Member) → Move
  LoadSeq : (condition : Member) → Move
  MoveAll : (condition : Member) (number : ℕ) → Move
  -- from outside, at any moment
  Kill : Point → Move
  Stray : (monitor : ℕ) → Point → Move
  StraySeq : (condition : Member) → Point → Move
  StrayId : (child : ℕ) → Point → Move
  -- the end: a return, with a result or without one, or the writing of a fault; then the exit
  Return : (result : Option ℕ) → Move
  WriteFault : Cause → Entry → Move
  SkipEntry : (monitor : ℕ) → End → Move
  EntryAlone : (monitor : ℕ) → Entry → End → Move
  EntryWake : (monitor : ℕ) → Entry → End → (woken : List ℕ) → Move
  PendNone : End → Move
  PendAlone : (monitor : ℕ) → End → Move
  PendWake : (monitor : ℕ) → End → (woken : List ℕ) → Move
  PendForeign : (monitor : ℕ) → End → (woken : List ℕ) → Move
  PendPassed : (monitor : ℕ) → End → Move
  ClearId : End → Move
  LastWake : End → (woken : List ℕ) → Move
  -- processes
  Fork : (parent : ℕ) → Move
  ForkFull : Move
  Claim : (child : ℕ) → Move
  ReadClaimed : (child : ℕ) → Move
  ClaimTaken : (child : ℕ) → Move
  IdGone : (child : ℕ) → End → Move
  IdThere : (child : ℕ) → Move
  IdSleep : (child : ℕ) → Move
  IdAgain : (child : ℕ) → Move
  LearnEnded : (child : ℕ) → End → Move
  LearnAborted : (child : ℕ) → End → Move
  TakeResult : (child : ℕ) → End → Move
