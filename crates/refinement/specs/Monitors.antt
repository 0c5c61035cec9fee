-- What is seen of the monitors: what their lock words tell, and why a thread sleeps.
use Rattle.std.specs.Prelude.{ℕ, zero, suc, ◌≡◌, ◌⊎◌, Bool, true, false, List, Option, Some, None}
use Rattle.words.specs.LockWord.{owner_of, died_of}
use Rattle.words.specs.Process.{process_word}
use Rattle.machine.specs.States.{State}
use Rattle.program.specs.declared.kinds.Member.{Member}
use Rattle.program.specs.Trees.{Part, Program}
use Rattle.lowering.specs.Layout.{lock_word_address, member_address}
use Rattle.meaning.specs.Table.{Hold, Free, Abandoned, HeldBy}
use Rattle.meaning.specs.Processes.{Frame, Caller, Process, Entering, Suspended, Joining}
use Rattle.meaning.specs.States.{SourceState}

-- what a lock word tells of its monitor: it is held by the word's owner; or, without one, abandoned where the owner
-- died, else free
abbrev pub hold_told : (owner : ℕ) → (died : Bool) → Hold
hold_told zero true = Abandoned
hold_told zero false = Free
hold_told (suc t) died = HeldBy (suc t)

-- what the lock word of monitor m tells
abbrev pub machine_hold : Program → State → ℕ → Hold
machine_hold p s m = hold_told (owner_of (s.word (lock_word_address p m))) (died_of (s.word (lock_word_address p m)))

-- why the thread of process q sleeps, by the address of the word on which it does
pub data SleepsFor (p : Program) (source : SourceState) (q : ℕ) : (address : ℕ) → Process → Type 0 where
  -- on the lock word of the monitor that it enters
  to_enter : {m : ℕ} {f : Frame} {cs : List Caller} → SleepsFor p source q (lock_word_address p m) (Entering m f cs)
  -- on the lock word of the monitor that it waited in, whether it waits still or not
  to_resume : {c : Member} {f : Frame} {cs : List Caller}
      → (source.table.waits q ≡ Some c) ⊎ (source.table.waits q ≡ None)
      → SleepsFor p source q (lock_word_address p c.monitor) (Suspended c f cs)
  -- on the word of the condition that it waits on
  to_be_notified : {c : Member} {f : Frame} {cs : List Caller} → source.table.waits q ≡ Some c
      → SleepsFor p source q (member_address p c) (Suspended c f cs)
  -- on the id word of the process that it joins
  to_join : {child : ℕ} {into : Option ℕ} {part : Part} {f : Frame} {cs : List Caller}
      → SleepsFor p source q (process_word child 2) (Joining child into part f cs)

-- process q stands where its thread sleeps on this word
pub record StandsAsleep (p : Program) (source : SourceState) (q address : ℕ) : Type 0 where
  pub process : Process
  pub stands : source.process q ≡ Some process
  pub sleeps_for : SleepsFor p source q address process
