-- What holds of each template where it stands: its code, what the process offers before it, and where the thread goes
-- on
-- behind it.
use Rattle.std.specs.Prelude.{ℕ, ◌+◌, ◌≡◌, ◌<◌, ℤ, List, [], ◌∷◌, length, Option, Some}
use Rattle.program.specs.declared.kinds.Member.{Member}
use Rattle.program.specs.declared.kinds.MemberType.TheVariants.{Condition}
use Rattle.program.specs.Scope.{member_type, own_monitor}
use Rattle.program.specs.Trees.{Program}
use Rattle.lowering.specs.Layout.{link_word, member_address}
use Rattle.lowering.specs.Locks.{enter_code, exit_code, exit_length}
use Rattle.lowering.specs.Conditions.{wait_code, wait_recovers, notify_code, broadcast_code}
use Rattle.lowering.specs.Marks.{rebase_all}
use Rattle.locals.specs.declared.frame.Locals.{Locals}
use Rattle.locals.specs.declared.frame.Frame.{Frame as MachineFrame}
use Rattle.locals.specs.Threads.{Runs as Runs'}
use Rattle.meaning.specs.Values.{Variables}
use Rattle.meaning.specs.Labels as L
use Rattle.meaning.specs.Processes.{Frame, Caller, Process, Suspended, Returning, all_monitors, callers_monitors, holds}
use Rattle.meaning.specs.Offers.{Does, NotifiesSome, NotifiesAll, Nothing, offer}
use Rattle.proof_thread.specs.Variables.{SameIn}
use Rattle.proof_thread.specs.Walks.{StandAt}
use Rattle.proof_thread.specs.Following.{Build, recovery_in, result_operands, own_of, Stands}
use Rattle.proof_thread.specs.Completing.{GoesOn, HasFirst}

-- what a process offers is the same for all variables with the same values in its own monitor, which it holds,
-- innermost
pub record IsSteady (p : Program) (q : Process) (v : Variables) : Type 0 where
  pub first : (m : ℕ) → own_of q ≡ Some m → HasFirst q m
  pub same : (v' : Variables) → SameIn (own_of q) v v' → offer p v' q ≡ offer p v q

-- the template's code, what the process offers before it, and where the thread stands after it
pub record EnterFits (b : Build) (t m base : ℕ) (l : Locals) (fs : List MachineFrame) (f : Frame)
    (cs : List Caller) : Type 0 where
  pub monitor : m < length b.program.monitors
  pub held : all_monitors f cs ≡ m ∷ callers_monitors cs
  pub code : StandAt b.code base (rebase_all base (enter_code m (link_word b.program m) (recovery_in b m)))
  pub after : GoesOn b t m (base + 60) l fs f cs

-- the exit from monitor m
pub record ExitFits (b : Build) (v : Variables) (t m base : ℕ) (shown : Option ℕ) (l : Locals)
    (fs : List MachineFrame) (before : Process) (z : ℤ) (cs : List Caller) : Type 0 where
  pub monitor : m < length b.program.monitors
  pub offers : offer b.program v before ≡ Does (L.Exits m) Nothing (Returning z cs)
  pub steady : IsSteady b.program before v
  pub held : holds before ≡ m ∷ callers_monitors cs
  pub code : StandAt b.code base (rebase_all base (exit_code b.program.version m (link_word b.program m)))
  pub after : Stands b t (Runs' (base + exit_length b.program.version) (result_operands shown) l fs) (Returning z cs)

-- a WAIT on condition c
pub record WaitFits (b : Build) (v : Variables) (t : ℕ) (c : Member) (base : ℕ) (l : Locals)
    (fs : List MachineFrame) (before : Process) (f : Frame) (cs : List Caller) (ms : List ℕ) : Type 0 where
  pub condition : member_type b.program c ≡ Some Condition
  pub offers : offer b.program v before ≡ Does (L.Waits c) Nothing (Suspended c f cs)
  pub steady : IsSteady b.program before v
  pub had : holds before ≡ c.monitor ∷ ms
  pub own : own_monitor f.role ≡ Some c.monitor
  pub held : all_monitors f cs ≡ c.monitor ∷ ms
  pub code : StandAt b.code base (rebase_all base (wait_code b.program.version c (link_word b.program c.monitor)
      (member_address b.program c) (recovery_in b c.monitor)))
  pub after : GoesOn b t c.monitor (base + wait_recovers b.program.version) l fs f cs

-- a NOTIFY of condition c
pub record NotifyFits (b : Build) (v : Variables) (t : ℕ) (c : Member) (base : ℕ) (l : Locals)
    (fs : List MachineFrame) (before after : Process) (ms : List ℕ) : Type 0 where
  pub condition : member_type b.program c ≡ Some Condition
  pub offers : offer b.program v before ≡ NotifiesSome c after
  pub steady : IsSteady b.program before v
  pub held : holds before ≡ c.monitor ∷ ms
  pub keeps : holds after ≡ holds before
  pub code : StandAt b.code base (notify_code c (member_address b.program c))
  pub goes : Stands b t (Runs' (base + 8) [] l fs) after

-- a BROADCAST of condition c
pub record BroadcastFits (b : Build) (v : Variables) (t : ℕ) (c : Member) (base : ℕ) (l : Locals)
    (fs : List MachineFrame) (before after : Process) (ms : List ℕ) : Type 0 where
  pub condition : member_type b.program c ≡ Some Condition
  pub offers : offer b.program v before ≡ NotifiesAll c after
  pub steady : IsSteady b.program before v
  pub held : holds before ≡ c.monitor ∷ ms
  pub keeps : holds after ≡ holds before
  pub code : StandAt b.code base (broadcast_code c (link_word b.program c.monitor) (member_address b.program c))
  pub goes : Stands b t (Runs' (base + 16) [] l fs) after
