-- Where a process of the source stands: a rest of program with its locals and callers, or between two statements'
-- halves.
use Rattle.std.specs.Prelude.{ℕ, ◌==◌, ℤ, pos, List, [], ◌∷◌, ◌++◌, slice_get, slice_set, map, filter, not, Option}
use Rattle.std.specs.Prelude.{Some, None}
use Rattle.words.specs.declared.outcome.Fault.{Fault}
use Rattle.words.specs.declared.outcome.Fault.TheVariants.{AbandonedMonitor}
use Rattle.program.specs.declared.kinds.Member.{Member}
use Rattle.program.specs.declared.kinds.ValueType.{ValueType}
use Rattle.program.specs.declared.kinds.Role.{Role}
use Rattle.program.specs.declared.kinds.Role.TheVariants.{Entry, Internal, Recover, External, Main}
use Rattle.program.specs.Trees.{Block, Done, Then, Return, Part, Procedure, Program}
use Rattle.program.specs.Scope.{recover_of}
use Rattle.meaning.specs.Labels.{End, Cause}

-- a procedure that runs: which part of the program it is, the values of its locals, and what is left of its body
pub record Frame : Type 0 where
  pub role : Role
  pub locals : List ℤ
  pub rest : Block

-- a procedure that waits for one that it called, and the local that takes the result
pub record Caller : Type 0 where
  pub into : Option ℕ
  pub frame : Frame

-- where a process stands
pub data Process : Type 0 where
  -- called an ENTRY procedure, and hasn't entered its monitor
  Entering : (monitor : ℕ) (frame : Frame) (callers : List Caller) → Process
  -- before the next statement, or the end, of its uppermost procedure; and the monitor that its last action entered
  Before : (entered : Option ℕ) (frame : Frame) (callers : List Caller) → Process
  -- gave up the monitor at a WAIT: waits as long as the table says so, and resumes after that
  Suspended : (condition : Member) (frame : Frame) (callers : List Caller) → Process
  -- claimed the child, and joins it
  Joining : (child : ℕ) (into : Option ℕ) (aborted : Part) (frame : Frame) (callers : List Caller) → Process
  -- gave up the monitor at the end of an ENTRY procedure, and hands the result to the caller next
  Returning : (value : ℤ) (callers : List Caller) → Process
  -- faults next; and the monitor that its last action entered
  Failing : (fault : Fault) (entered : Option ℕ) (frame : Frame) (callers : List Caller) → Process
  -- gives up the monitors that it held, one by one
  Dying : (cause : Cause) (monitors : List ℕ) → Process
  -- ends next
  Leaving : (value : ℤ) → Process
  Over : (end : End) → Process

-- a process goes on in a procedure. A RECOVER part that is done leads back to what it interrupted; the main part leaves
-- at its end and at a RETURN
abbrev pub goes_on_by : Role → Block → Option ℕ → Frame → List Caller → Process
goes_on_by (Recover m) Done entered f [] = Leaving (pos 0)
goes_on_by (Recover m) Done entered f (c ∷ callers) = Before entered c.frame callers
goes_on_by (Recover m) (Then s rest) entered f callers = Before entered f callers
goes_on_by Main Done entered f callers = Leaving (pos 0)
goes_on_by Main (Then (Return value) rest) entered f callers = Leaving (pos 0)
goes_on_by role rest entered f callers = Before entered f callers

-- a process goes on with what is left of its uppermost procedure
abbrev pub goes_on : Option ℕ → Frame → List Caller → Process
goes_on entered f callers = goes_on_by f.role f.rest entered f callers

-- as many zeros as there are locals behind the parameters
abbrev pub zeros : List ValueType → List ℤ
zeros ts = map (λ t. pos 0) ts

-- the frame in which a procedure begins with these arguments
abbrev pub frame_of : Option Procedure → List ℤ → Frame
frame_of None arguments = record { role = External; locals = arguments; rest = Done }
frame_of (Some q) arguments = record { role = q.role; locals = arguments ++ zeros q.locals; rest = q.body }

-- the frame of a procedure that begins with these arguments; all other locals begin as 0, FALSE or the empty handle
abbrev pub opening_frame : Program → ℕ → List ℤ → Frame
opening_frame p number arguments = frame_of (slice_get p.procedures number) arguments

-- a procedure of this role begins: an ENTRY procedure has its monitor to enter first
abbrev pub begins_by : Role → Frame → List Caller → Process
begins_by (Entry m) f callers = Entering m f callers
begins_by role f callers = goes_on None f callers

-- a procedure begins: an ENTRY procedure enters its monitor first
abbrev pub begins : Frame → List Caller → Process
begins f callers = begins_by f.role f callers

-- a process that found monitor m abandoned: its RECOVER part begins, or it is a fault where there is none
abbrev pub recovers_by : Program → Option ℕ → ℕ → Frame → List Caller → Process
recovers_by p None m f callers = Failing AbandonedMonitor (Some m) f callers
recovers_by p (Some r) m f callers =
    goes_on (Some m) (opening_frame p r []) (record { into = None; frame = f } ∷ callers)

-- an abandoned monitor was taken: its RECOVER part comes next, or without one a fault
abbrev pub recovers : Program → ℕ → Frame → List Caller → Process
recovers p m f callers = recovers_by p (recover_of p m) m f callers

-- a frame with a value put into a local
abbrev pub with_local : Frame → ℕ → ℤ → Frame
with_local f slot z = record f { locals = slice_set f.locals slot z }

-- a frame with the result in the local behind INTO, where one stands there
abbrev pub with_result : Option ℕ → ℤ → Frame → Frame
with_result None z f = f
with_result (Some slot) z f = with_local f slot z

-- a result is handed to the caller; without one, the process leaves with it
abbrev pub hands_over : ℤ → List Caller → Process
hands_over z [] = Leaving z
hands_over z (c ∷ callers) = goes_on None (with_result c.into z c.frame) callers

-- the monitors of the ENTRY procedures among these, innermost first
abbrev pub monitor_of_role : Role → List ℕ → List ℕ
monitor_of_role (Entry m) ms = m ∷ ms
monitor_of_role (Internal m) ms = ms
monitor_of_role (Recover m) ms = ms
monitor_of_role External ms = ms
monitor_of_role Main ms = ms

-- the monitors that a process's callers are in, the innermost first
abbrev pub callers_monitors : List Caller → List ℕ
callers_monitors [] = []
callers_monitors (c ∷ callers) = monitor_of_role c.frame.role (callers_monitors callers)

-- the monitors that a process is in, the innermost first
abbrev pub all_monitors : Frame → List Caller → List ℕ
all_monitors f callers = monitor_of_role f.role (callers_monitors callers)

-- a list without monitor m
abbrev pub without_monitor : ℕ → List ℕ → List ℕ
without_monitor m ms = filter (λ n. not (n == m)) ms

-- the monitors that a process holds, innermost first
abbrev pub holds : Process → List ℕ
holds (Entering m f callers) = callers_monitors callers
holds (Before entered f callers) = all_monitors f callers
holds (Suspended c f callers) = without_monitor c.monitor (all_monitors f callers)
holds (Joining child into part f callers) = all_monitors f callers
holds (Returning z callers) = callers_monitors callers
holds (Failing fault entered f callers) = all_monitors f callers
holds (Dying cause ms) = ms
holds (Leaving z) = []
holds (Over end) = []
