-- Where a thread stands in the code of a process.
use Rattle.std.specs.Prelude.{ℕ, ◌+◌, ◌≡◌, ◌<◌, ◌≤◌, List, [], ◌∷◌, length, Option, Some, None, ℤ, pos}
use Rattle.words.specs.Signed.{word_of}
use Rattle.words.specs.declared.outcome.Fault.TheVariants.{AbandonedMonitor}
use Rattle.words.specs.declared.outcome.Cause.TheVariants.{Faulted}
use Rattle.isa.specs.declared.instr.Instr.{Instr}
use Rattle.program.specs.declared.kinds.ValueType.{ValueType}
use Rattle.program.specs.declared.kinds.Role.TheVariants.{Entry, Recover}
use Rattle.program.specs.Trees.{Procedure}
use Rattle.program.specs.Scope.{scope_of, own_monitor, recover_of}
use Rattle.program.specs.Typing.{ResultFits, MayCall, IsNoRecover}
use Rattle.lowering.specs.Layout.{link_word}
use Rattle.lowering.specs.Locks.{recovery, enter_code}
use Rattle.lowering.specs.Marks.{rebase_all}
use Rattle.lowering.specs.Statements.{start_in}
use Rattle.lowering.specs.Processes.{return_code}
use Rattle.lowering.specs.declared.mark.Marked.{Marked}
use Rattle.lowering.specs.Pieces.{setting_of}
use Rattle.locals.specs.declared.frame.Locals.{Locals}
use Rattle.locals.specs.declared.frame.Frame.{Frame as MachineFrame}
use Rattle.locals.specs.Threads.{Thread, Runs, Dies}
use Rattle.meaning.specs.Processes.{Frame, Caller, Process, Entering, Before, Returning, Failing, goes_on}
use Rattle.proof_thread.specs.Typed.{HasValue}
use Rattle.proof_thread.specs.Walks.{StandAt}
pub use Rattle.proof_thread.specs.Shapes.{nesting, block_nesting, part_nesting}
pub use Rattle.proof_thread.specs.Bodies.{Implements, finishes, states, follows, IsSound, AreSound, IsFrame}
pub use Rattle.proof_thread.specs.Bodies.{taking_code}
pub use Rattle.proof_thread.specs.Bodies.{Build, most_made, with_made, StepsWithin, IsFirst}

-- a machine's frame stands for a caller's: behind its call comes this code, and then what is left of its body
pub record StandsBehind (b : Build) (m : MachineFrame) (c : Caller) (number : ℕ) (q : Procedure)
    (code : List Marked) : Type 0 where
  pub frame : IsFrame b.program b.height b.made b.width number q c.frame m.locals
  pub here : StandAt b.code m.back code
  pub jumps : ℕ
  pub few : jumps ≤ b.most
  pub more : Implements b.code (setting_of b.program b.starts q) b.most jumps (m.back + length code) c.frame.rest

-- the machine's frames stand for the callers of a procedure. A RECOVER part is called by the procedure that took the
-- abandoned monitor, in the midst of its ENTER or WAIT
pub data CallersStand (b : Build) : ℕ → Procedure → List MachineFrame → List Caller → Type 0 where
  is_first : {number : ℕ} {q : Procedure} → IsFirst q → CallersStand b number q [] []
  is_called : {number : ℕ} {q : Procedure} {m : MachineFrame} {ms : List MachineFrame} {c : Caller} {cs : List Caller}
      (n : ℕ) (caller : Procedure) → IsNoRecover caller.role → MayCall caller.role q.role
      → b.height number < b.height n → ResultFits (scope_of b.program caller) c.into q.result
      → StandsBehind b m c n caller (taking_code c.into q.result)
      → CallersStand b n caller ms cs → CallersStand b number q (m ∷ ms) (c ∷ cs)
  is_recovery : {number : ℕ} {q : Procedure} {m : MachineFrame} {ms : List MachineFrame} {c : Caller} {cs : List Caller}
      (n : ℕ) (caller : Procedure) (monitor : ℕ) → q.role ≡ Recover monitor → q.result ≡ None → c.into ≡ None
      → own_monitor caller.role ≡ Some monitor → IsNoRecover caller.role → StandsBehind b m c n caller []
      → CallersStand b n caller ms cs → CallersStand b number q (m ∷ ms) (c ∷ cs)

-- a thread at a place of the code stands for a procedure of the source and its callers
pub record Running (b : Build) (place : ℕ) (l : Locals) (fs : List MachineFrame) (f : Frame)
    (cs : List Caller) : Type 0 where
  pub number : ℕ
  pub procedure : Procedure
  pub frame : IsFrame b.program b.height b.made b.width number procedure f l
  pub jumps : ℕ
  pub few : jumps ≤ b.most
  pub code : Implements b.code (setting_of b.program b.starts procedure) b.most jumps place f.rest
  pub callers : CallersStand b number procedure fs cs

-- what is done with an abandoned monitor: its RECOVER part is called, or the process faults
abbrev pub recovery_in : Build → ℕ → Instr
recovery_in b m = recovery (start_in b.starts (recover_of b.program m))

-- a thread before the ENTER of an ENTRY procedure, whose body comes behind it
pub record IsEntering (b : Build) (m place : ℕ) (l : Locals) (fs : List MachineFrame) (f : Frame)
    (cs : List Caller) : Type 0 where
  pub number : ℕ
  pub procedure : Procedure
  pub role : procedure.role ≡ Entry m
  pub frame : IsFrame b.program b.height b.made b.width number procedure f l
  pub template : StandAt b.code place (rebase_all place (enter_code m (link_word b.program m) (recovery_in b m)))
  pub jumps : ℕ
  pub few : jumps ≤ b.most
  pub code : Implements b.code (setting_of b.program b.starts procedure) b.most jumps (place + 61) f.rest
  pub callers : CallersStand b number procedure fs cs

-- the operands at a return, and the result that they show
abbrev pub result_operands : Option ℕ → List ℕ
result_operands None = []
result_operands (Some w) = w ∷ []

-- the word that is left, if any, is that of the result z
abbrev pub ShowsResult : ℕ → ℕ → Option ValueType → Option ℕ → ℤ → Type 0
ShowsResult most made None None z = z ≡ pos 0
ShowsResult most made None (Some w) z = ⊥
ShowsResult most made (Some u) None z = ⊥
ShowsResult most made (Some u) (Some w) z = (w ≡ word_of z) × HasValue most made u z

-- a thread at the return of an ENTRY procedure, which has given up its monitor
pub record IsReturning (b : Build) (place : ℕ) (shown : Option ℕ) (fs : List MachineFrame) (z : ℤ)
    (cs : List Caller) : Type 0 where
  pub number : ℕ
  pub procedure : Procedure
  pub monitor : ℕ
  pub role : procedure.role ≡ Entry monitor
  pub code : StandAt b.code place (return_code procedure.role procedure.result ∷ [])
  pub result : ShowsResult (most_made b) b.made procedure.result shown z
  pub callers : CallersStand b number procedure fs cs

-- the monitor whose variables a process may read and change next
abbrev pub own_of : Process → Option ℕ
own_of (Before entered f callers) = own_monitor f.role
own_of q = None

-- a thread comes within a few local steps to where it stands for a process
pub data Stands (b : Build) (t : ℕ) (x : Thread) (q : Process) : Type 0 where
  -- in the body of its uppermost procedure
  runs : (entered : Option ℕ) (f : Frame) (cs : List Caller) (place : ℕ) (l : Locals) (fs : List MachineFrame)
      → StepsWithin b t 16 x (Runs place [] l fs) → Running b place l fs f cs → q ≡ goes_on entered f cs
      → Stands b t x q
  -- before the ENTER of an ENTRY procedure
  enters : (m : ℕ) (f : Frame) (cs : List Caller) (place : ℕ) (l : Locals) (fs : List MachineFrame)
      → StepsWithin b t 16 x (Runs place [] l fs) → IsEntering b m place l fs f cs → q ≡ Entering m f cs
      → Stands b t x q
  -- at the return of an ENTRY procedure
  returns : (z : ℤ) (cs : List Caller) (place : ℕ) (shown : Option ℕ) (l : Locals) (fs : List MachineFrame)
      → StepsWithin b t 16 x (Runs place (result_operands shown) l fs) → IsReturning b place shown fs z cs
      → q ≡ Returning z cs → Stands b t x q
  -- on the way to a fault, in an abandoned monitor that has no RECOVER part
  fails : (m : ℕ) (f : Frame) (cs : List Caller) → StepsWithin b t 16 x (Dies (Faulted AbandonedMonitor))
      → q ≡ Failing AbandonedMonitor (Some m) f cs → Stands b t x q
