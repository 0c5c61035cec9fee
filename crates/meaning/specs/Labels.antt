-- What a process does in one action: as a list of actions names it, and with what it learns in it.
use Rattle.std.specs.Prelude.{ℕ, ℤ, Bool, List, Option}
use Rattle.words.specs.declared.outcome.Fault.{Fault}
use Rattle.words.specs.declared.outcome.Fault.TheVariants.{HandleNotJoinable, ProcessTableFull}
use Rattle.program.specs.declared.kinds.Member.{Member}
-- why a process dies: it faulted, or it was killed from outside
pub use Rattle.words.specs.declared.outcome.Cause.{Cause}
pub use Rattle.words.specs.declared.outcome.Cause.TheVariants.{Faulted, Killed}

-- how a process is over
pub data End : Type 0 where
  Ended : (value : ℤ) → End
  Aborted : (cause : Cause) → End

-- an action as it is named: by all that determines what it leads to
pub data Kind : Type 0 where
  Assign : Kind
  Test : Kind
  Call : Kind
  Return : Kind
  Print : (number : ℤ) → Kind
  Fork : (child : ℕ) → Kind
  Claim : (child : ℕ) → Kind
  Join : (child : ℕ) → Kind
  Fails : (fault : Fault) → Kind
  Enter : (monitor : ℕ) → Kind
  Exit : (monitor : ℕ) → Kind
  Wait : (condition : Member) → Kind
  Resume : (monitor : ℕ) → Kind
  -- with the processes that it resumes
  Notify : (condition : Member) (resumed : List ℕ) → Kind
  Broadcast : (condition : Member) (resumed : List ℕ) → Kind
  Abandon : (monitor : ℕ) → Kind
  Finish : Kind
  -- from outside: a process resumes though nobody notified it
  Stray : (condition : Member) → Kind
  -- from outside: a process dies where it stands; with the processes that it resumes, and the monitor that it abandons
  -- last, where that isn't its outermost
  Kill : (resumed : List ℕ) (last : Option ℕ) → Kind

-- an action of a process, by its number from 1
pub record Action : Type 0 where
  pub process : ℕ
  pub kind : Kind

-- what an action of a process's own is to monitors, conditions and the process table, with what it learns of them
pub data Label : Type 0 where
  -- it touches none of them
  Alone : (kind : Kind) → Label
  -- it changes a variable of this monitor
  Stores : (monitor : ℕ) → Label
  Forks : (child : ℕ) → Label
  -- no process can be made any more
  FindsFull : Label
  Claims : (child : ℕ) → Label
  FindsClaimed : (child : ℕ) → Label
  Joins : (child : ℕ) (end : End) → Label
  -- and whether the monitor was abandoned
  Enters : (monitor : ℕ) (was_abandoned : Bool) → Label
  Resumes : (monitor : ℕ) (was_abandoned : Bool) → Label
  Exits : (monitor : ℕ) → Label
  Waits : (condition : Member) → Label
  Notifies : (condition : Member) (resumed : List ℕ) → Label
  Broadcasts : (condition : Member) (resumed : List ℕ) → Label
  Abandons : (monitor : ℕ) → Label
  Ends : (end : End) → Label

-- how an action of this label is named
abbrev pub kind_of : Label → Kind
kind_of (Alone kind) = kind
kind_of (Stores monitor) = Assign
kind_of (Forks child) = Fork child
kind_of FindsFull = Fails ProcessTableFull
kind_of (Claims child) = Claim child
kind_of (FindsClaimed child) = Fails HandleNotJoinable
kind_of (Joins child end) = Join child
kind_of (Enters monitor was_abandoned) = Enter monitor
kind_of (Resumes monitor was_abandoned) = Resume monitor
kind_of (Exits monitor) = Exit monitor
kind_of (Waits condition) = Wait condition
kind_of (Notifies condition resumed) = Notify condition resumed
kind_of (Broadcasts condition resumed) = Broadcast condition resumed
kind_of (Abandons monitor) = Abandon monitor
kind_of (Ends end) = Finish
