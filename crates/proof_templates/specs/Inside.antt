-- A thread inside a template of its process: which template, and where the process stands at each of its points.
use Rattle.std.specs.Prelude.{ℕ, ℤ, Bool, List, [], ◌∷◌, Option, Some, if◌then◌else◌}
use Rattle.program.specs.declared.kinds.Member.{Member}
use Rattle.program.specs.Trees.{Program}
use Rattle.lowering.specs.Locks.{leave_length}
use Rattle.locals.specs.declared.frame.Locals.{Locals}
use Rattle.locals.specs.declared.frame.Frame.{Frame as MachineFrame}
use Rattle.locals.specs.Threads.{Thread, Runs as Runs'}
use Rattle.meaning.specs.Values.{Variables}
use Rattle.meaning.specs.Processes.{Frame, Caller, Process, Entering, Suspended, Returning, goes_on, recovers}
use Rattle.meaning.specs.Processes.{callers_monitors}
use Rattle.protocol.specs.Carries.{has_died}
use Rattle.protocol.specs.Rules.{release_of}
use Rattle.protocol.specs.Points.{Point, EnterPends, ReenterPends, GotReads, GotLinks, GotHeads, GotUnpends, WaitReads}
use Rattle.protocol.specs.Points.{NotifyAdds, BroadcastAdds, ToExit, LeavePends, LeaveReads, LeaveHeads, LeaveSwaps}
use Rattle.proof_thread.specs.Variables.{SameIn}
use Rattle.proof_thread.specs.Following.{Build, result_operands, own_of}
use Rattle.proof_templates.specs.Locking.{EntersAt, ExitsAt, WaitsAt}
use Rattle.proof_templates.specs.Notifying.{NotifiesAt, BroadcastsAt}
pub use Rattle.proof_templates.specs.Fitting.{IsSteady, EnterFits, ExitFits, WaitFits, NotifyFits, BroadcastFits}

-- a template, with the place where its code begins, the locals and callers of its frame, and the process: where it
-- stands before what the template does, and what it becomes
pub data Template : Type 0 where
  Enters : (monitor base : ℕ) (locals : Locals) (frames : List MachineFrame) (frame : Frame) (callers : List Caller)
      → Template
  -- with the result that is on the operands meanwhile
  Exits : (monitor base : ℕ) (shown : Option ℕ) (locals : Locals) (frames : List MachineFrame) (before : Process)
      (value : ℤ) (callers : List Caller) → Template
  -- with the other monitors that the process holds
  Waits : (condition : Member) (base : ℕ) (locals : Locals) (frames : List MachineFrame) (before : Process)
      (frame : Frame) (callers : List Caller) (others : List ℕ) → Template
  Notifies : (condition : Member) (base : ℕ) (locals : Locals) (frames : List MachineFrame) (before after : Process)
      (others : List ℕ) → Template
  Broadcasts : (condition : Member) (base : ℕ) (locals : Locals) (frames : List MachineFrame) (before after : Process)
      (others : List ℕ) → Template

-- a process that has taken a monitor's lock, whose word was this
abbrev pub lock_taker : Program → ℕ → Frame → List Caller → ℕ → Process
lock_taker p m f cs v = if has_died v then recovers p m f cs else goes_on (Some m) f cs

-- where a process stands in the taking of a lock, which is done from the points on that mend the robust list
abbrev pub taking_process : Program → ℕ → Frame → List Caller → Process → Point → Process
taking_process p m f cs before (GotReads n v) = lock_taker p m f cs v
taking_process p m f cs before (GotLinks n v h) = lock_taker p m f cs v
taking_process p m f cs before (GotHeads n v) = lock_taker p m f cs v
taking_process p m f cs before (GotUnpends n v) = lock_taker p m f cs v
taking_process p m f cs before pt = before

-- and in the giving up of one, which is done by the swap of the lock word
abbrev pub releasing_process : Process → Process → Point → Process
releasing_process before after (WaitReads c) = before
releasing_process before after (LeavePends m r) = before
releasing_process before after (LeaveReads m r) = before
releasing_process before after (LeaveHeads m h r) = before
releasing_process before after (LeaveSwaps m r) = before
releasing_process before after pt = after

-- where the process stands at each point of its template
abbrev pub process_at : Program → Template → Point → Process
process_at p (Enters m base l fs f cs) pt = taking_process p m f cs (Entering m f cs) pt
process_at p (Exits m base shown l fs before z cs) pt = releasing_process before (Returning z cs) pt
process_at p (Waits c base l fs before f cs ms) pt =
    taking_process p c.monitor f cs (releasing_process before (Suspended c f cs) pt) pt
process_at p (Notifies c base l fs before after ms) pt = before
process_at p (Broadcasts c base l fs before after ms) pt = before

-- the robust list in the midst of taking a lock, giving one up, and of both
abbrev pub taking_list : ℕ → List ℕ → Point → List ℕ
taking_list m ms (GotUnpends n v) = m ∷ ms
taking_list m ms pt = ms

-- the robust list at each point of giving up monitor m, where `ms` are the others
abbrev pub releasing_list : ℕ → List ℕ → Point → List ℕ
releasing_list m ms (WaitReads c) = m ∷ ms
releasing_list m ms (LeavePends n r) = m ∷ ms
releasing_list m ms (LeaveReads n r) = m ∷ ms
releasing_list m ms (LeaveHeads n h r) = m ∷ ms
releasing_list m ms (GotUnpends n v) = m ∷ ms
releasing_list m ms pt = ms

-- the robust list at each point of a template
abbrev pub list_at : Template → Point → List ℕ
list_at (Enters m base l fs f cs) pt = taking_list m (callers_monitors cs) pt
list_at (Exits m base shown l fs before z cs) pt = releasing_list m (callers_monitors cs) pt
list_at (Waits c base l fs before f cs ms) pt = releasing_list c.monitor ms pt
list_at (Notifies c base l fs before after ms) pt = c.monitor ∷ ms
list_at (Broadcasts c base l fs before after ms) pt = c.monitor ∷ ms

-- a thread of the machine stands at this point of the template
abbrev pub StandsIn : Program → ℕ → Template → Point → Thread → Type 0
StandsIn p t (Enters m base l fs f cs) pt x = EntersAt p t m base l fs pt x
StandsIn p t (Exits m base shown l fs before z cs) pt x = ExitsAt (leave_length p.version) (release_of p.version) p t
    m base shown l fs pt x
StandsIn p t (Waits c base l fs before f cs ms) pt x = WaitsAt (leave_length p.version) (release_of p.version) p t c
    base l fs pt x
StandsIn p t (Notifies c base l fs before after ms) pt x = NotifiesAt p c base l fs pt x
StandsIn p t (Broadcasts c base l fs before after ms) pt x = BroadcastsAt p c base l fs pt x

-- the thread before the template, and the template's first point: ENTER of a monitor that the thread holds has another
abbrev pub first_thread : Template → Thread
first_thread (Enters m base l fs f cs) = Runs' base [] l fs
first_thread (Exits m base shown l fs before z cs) = Runs' base (result_operands shown) l fs
first_thread (Waits c base l fs before f cs ms) = Runs' base [] l fs
first_thread (Notifies c base l fs before after ms) = Runs' base [] l fs
first_thread (Broadcasts c base l fs before after ms) = Runs' base [] l fs

-- the point at which a template begins
abbrev pub first_point : Bool → Template → Point
first_point held (Enters m base l fs f cs) = if held then ReenterPends m else EnterPends m
first_point held (Exits m base shown l fs before z cs) = LeavePends m ToExit
first_point held (Waits c base l fs before f cs ms) = WaitReads c
first_point held (Notifies c base l fs before after ms) = NotifyAdds c
first_point held (Broadcasts c base l fs before after ms) = BroadcastAdds c

-- the template fits its place
abbrev pub TemplateFits : Build → Variables → ℕ → Template → Type 0
TemplateFits b v t (Enters m base l fs f cs) = EnterFits b t m base l fs f cs
TemplateFits b v t (Exits m base shown l fs before z cs) = ExitFits b v t m base shown l fs before z cs
TemplateFits b v t (Waits c base l fs before f cs ms) = WaitFits b v t c base l fs before f cs ms
TemplateFits b v t (Notifies c base l fs before after ms) = NotifyFits b v t c base l fs before after ms
TemplateFits b v t (Broadcasts c base l fs before after ms) = BroadcastFits b v t c base l fs before after ms

-- before a monitor is given up, or in a template that doesn't give it up
abbrev pub IsBeforeRelease : Point → Type 0
IsBeforeRelease (WaitReads c) = Unit {0}
IsBeforeRelease (LeavePends m r) = Unit {0}
IsBeforeRelease (LeaveReads m r) = Unit {0}
IsBeforeRelease (LeaveHeads m h r) = Unit {0}
IsBeforeRelease (LeaveSwaps m r) = Unit {0}
IsBeforeRelease pt = ⊥

-- as long as the process stands before what the template does, the variables of its own monitor are as they were when
-- it came to the template
abbrev pub SameBefore : Template → Point → Variables → Variables → Type 0
SameBefore (Enters m base l fs f cs) pt u v = Unit {0}
SameBefore (Exits m base shown l fs before z cs) pt u v = IsBeforeRelease pt → SameIn (own_of before) u v
SameBefore (Waits c base l fs before f cs ms) pt u v = IsBeforeRelease pt → SameIn (own_of before) u v
SameBefore (Notifies c base l fs before after ms) pt u v = SameIn (own_of before) u v
SameBefore (Broadcasts c base l fs before after ms) pt u v = SameIn (own_of before) u v
