-- What a thread that stands for a process does: the steps that complete what the process offers, or the templates that
-- do.
use Rattle.std.specs.Prelude.{ℕ, suc, ◌+◌, ◌≡◌, ◌<◌, ◌≤◌, pos, ℤ, List, [], ◌∷◌, length, Option, Some, None}
use Rattle.std.specs.Prelude.{true}
use Rattle.words.specs.Process.{process_word}
use Rattle.words.specs.Signed.{signed_of, word_of}
use Rattle.words.specs.declared.outcome.Fault.{Fault}
use Rattle.words.specs.declared.outcome.Fault.TheVariants.{HandleNotJoinable, ProcessTableFull}
use Rattle.program.specs.declared.kinds.Member.{Member}
use Rattle.program.specs.declared.kinds.MemberType.TheVariants.{Condition}
use Rattle.program.specs.Scope.{member_type, own_monitor}
use Rattle.program.specs.Trees.{Part}
use Rattle.lowering.specs.Layout.{link_word, member_address}
use Rattle.lowering.specs.Locks.{enter_code, exit_code}
use Rattle.lowering.specs.Conditions.{wait_code, notify_code, broadcast_code}
use Rattle.lowering.specs.Marks.{rebase_all}
use Rattle.locals.specs.declared.frame.Locals.{Locals}
use Rattle.locals.specs.declared.frame.Frame.{Frame as MachineFrame}
use Rattle.locals.specs.Threads.{Thread, Runs, Dies, opening_thread}
use Rattle.locals.specs.Looks.{Goes, Asks, AskStore, AskSwap, AskFork, AskPrint, AskReturn}
use Rattle.locals.specs.Looks.{look, first_exit}
use Rattle.meaning.specs.Values.{Variables}
use Rattle.meaning.specs.Labels.{Faulted, Alone, Kind, Exits, Waits, Stores}
use Rattle.meaning.specs.Labels as L
use Rattle.meaning.specs.Processes.{Frame, Caller, Process, Entering, Suspended, Joining, Returning, Dying, Leaving}
use Rattle.meaning.specs.Processes.{goes_on, recovers, holds, all_monitors, callers_monitors}
use Rattle.meaning.specs.Offers.{Does, MakesOne, ClaimsOne, NotifiesSome, NotifiesAll, Nothing, Puts, Writes, offer}
use Rattle.proof_thread.specs.Variables.{IsVariable, variable_address, ValueFits}
use Rattle.proof_thread.specs.Deferrals.{mark_of, deferred_by_mark, last_mark}
use Rattle.proof_thread.specs.Walks.{View, StandAt, WalksWithin}
use Rattle.proof_thread.specs.Following.{Build, most_made, with_made, recovery_in, result_operands, own_of}
use Rattle.proof_thread.specs.Following.{StepsWithin, Stands}
pub use Rattle.proof_thread.specs.Awaiting.{IsOwn, IsInternal, return_request, left_value, IsResult, join_steps}
pub use Rattle.proof_thread.specs.Awaiting.{GoesAborted}
pub use Rattle.proof_thread.specs.Awaiting.{Awaits}
use Rattle.lowering.specs.Locks.{exit_length}
use Rattle.lowering.specs.Conditions.{wait_recovers}

-- locals with a word in the templates' own
abbrev pub with_scratch : Locals → ℕ → Locals
with_scratch l word = record l { scratch = word }

-- where a thread goes on that has taken a monitor's lock, whatever word it has kept: behind the instruction at a place,
-- or, where the monitor was abandoned, at that instruction
pub record GoesOn (b : Build) (t m place : ℕ) (l : Locals) (fs : List MachineFrame) (f : Frame)
    (cs : List Caller) : Type 0 where
  pub enters : (word : ℕ) → Stands b t (Runs (place + 1) [] (with_scratch l word) fs) (goes_on (Some m) f cs)
  pub recovers : (word : ℕ) → Stands b t (Runs place [] (with_scratch l word) fs) (recovers b.program m f cs)

-- a process has the monitor, innermost
abbrev pub HasFirst : Process → ℕ → Type 0
HasFirst q m = (ms : List ℕ) × (holds q ≡ m ∷ ms)

-- the step with which a thread does what its process offers: an action of its own, a print, a store into a variable,
-- the return of its first procedure, a fork, the claim of a JOIN, or, once it has met it, a fault; or the template,
-- before which it stands, that does it
pub data Completes (b : Build) (t : ℕ) (v : Variables) (x : Thread) (q : Process) : Type 0 where
  acts : {y : Thread} {r : Process} (kind : Kind) → IsInternal kind → look b.code.image t x ≡ Goes y
      → deferred_by_mark (mark_of b.code.marks x) ≡ Some kind
      → offer b.program v q ≡ Does (Alone kind) Nothing r
      → Stands b t y r → Completes b t v x q
  prints : {r : Process} (w : ℕ) (go : ℕ → Thread) → look b.code.image t x ≡ Asks (AskPrint w) go
      → offer b.program v q ≡ Does (Alone (L.Print (signed_of w))) (Writes (signed_of w)) r
      → ((answer : ℕ) → Stands b t (go answer) r) → Completes b t v x q
  stores : {r : Process} (m : Member) (i : ℕ) (z : ℤ) (go : ℕ → Thread) → own_of q ≡ Some m.monitor
      → HasFirst q m.monitor
      → IsVariable b.program m i → ValueFits (most_made b) b.made (member_type b.program m) z
      → look b.code.image t x ≡ Asks (AskStore (variable_address b.program m i) (word_of z)) go
      → offer b.program v q ≡ Does (Stores m.monitor) (Puts m.monitor m.number i z) r
      → ((answer : ℕ) → Stands b t (go answer) r) → Completes b t v x q
  returns : look b.code.image t x ≡ Asks AskReturn first_exit → last_mark (mark_of b.code.marks x) ≡ None
      → q ≡ Leaving (pos 0) → Completes b t v x q
  leaves : (result : Option ℕ) → IsResult result → look b.code.image t x ≡ Asks (return_request result) first_exit
      → last_mark (mark_of b.code.marks x) ≡ Some L.Return
      → offer b.program v q ≡ Does (Alone L.Return) Nothing (Leaving (left_value result))
      → Completes b t v x q
  forks : {child : Process} {after : ℕ → Process} (entry : ℕ) (arguments : List ℕ) (go : ℕ → Thread)
      → look b.code.image t x ≡ Asks (AskFork entry arguments true) go → go 0 ≡ Dies (Faulted ProcessTableFull)
      → offer b.program v q ≡ MakesOne child after (Dying (Faulted ProcessTableFull) (holds q))
      → ((n : ℕ) → b.made ≤ suc n → suc n ≤ most_made b
      → Stands (with_made b (suc n)) t (go (suc n)) (after (suc n)))
      → ((n u : ℕ) → b.made ≤ n → Stands (with_made b n) u (opening_thread entry arguments) child)
      → holds child ≡ [] → Completes b t v x q
  claims : {into : Option ℕ} {part : Part} {f : Frame} {callers : List Caller} (child : ℕ) (go : ℕ → Thread)
      → 0 < child → child ≤ b.made → child ≤ most_made b
      → look b.code.image t x ≡ Asks (AskSwap (process_word child 3) 1) go
      → offer b.program v q ≡ ClaimsOne child (Joining child into part f callers)
      (Dying (Faulted HandleNotJoinable) (holds q))
      → (j : Awaits b t child into part f callers)
      → StepsWithin b t join_steps (go 0) j.reads
      → ((n : ℕ) → StepsWithin b t join_steps (go (suc n)) (Dies (Faulted HandleNotJoinable)))
      → Completes b t v x q
  faults : (fault : Fault) → x ≡ Dies (Faulted fault)
      → offer b.program v q ≡ Does (Alone (L.Fails fault)) Nothing (Dying (Faulted fault) (holds q))
      → Completes b t v x q
  enters : {m : ℕ} {f : Frame} {cs : List Caller} {l : Locals} {fs : List MachineFrame} (base : ℕ)
      → q ≡ Entering m f cs → x ≡ Runs base [] l fs → m < length b.program.monitors
      → all_monitors f cs ≡ m ∷ callers_monitors cs
      → StandAt b.code base (rebase_all base (enter_code m (link_word b.program m) (recovery_in b m)))
      → GoesOn b t m (base + 60) l fs f cs → Completes b t v x q
  exits : {z : ℤ} {cs : List Caller} {l : Locals} {fs : List MachineFrame} (m base : ℕ) (shown : Option ℕ)
      → offer b.program v q ≡ Does (Exits m) Nothing (Returning z cs) → holds q ≡ m ∷ callers_monitors cs
      → x ≡ Runs base (result_operands shown) l fs
      → StandAt b.code base (rebase_all base (exit_code b.program.version m (link_word b.program m)))
      → Stands b t (Runs (base + exit_length b.program.version) (result_operands shown) l fs) (Returning z cs)
      → Completes b t v x q
  waits : {f : Frame} {cs : List Caller} {l : Locals} {fs : List MachineFrame} {ms : List ℕ} (c : Member) (base : ℕ)
      → member_type b.program c ≡ Some Condition
      → offer b.program v q ≡ Does (Waits c) Nothing (Suspended c f cs) → holds q ≡ c.monitor ∷ ms
      → own_monitor f.role ≡ Some c.monitor → all_monitors f cs ≡ c.monitor ∷ ms → x ≡ Runs base [] l fs
      → StandAt b.code base (rebase_all base (wait_code b.program.version c (link_word b.program c.monitor)
      (member_address b.program c)
      (recovery_in b c.monitor)))
      → GoesOn b t c.monitor (base + wait_recovers b.program.version) l fs f cs → Completes b t v x q
  notifies : {r : Process} {l : Locals} {fs : List MachineFrame} (c : Member) (base : ℕ)
      → member_type b.program c ≡ Some Condition → offer b.program v q ≡ NotifiesSome c r → HasFirst q c.monitor
      → holds r ≡ holds q → x ≡ Runs base [] l fs → StandAt b.code base (notify_code c (member_address b.program c))
      → Stands b t (Runs (base + 8) [] l fs) r → Completes b t v x q
  broadcasts : {r : Process} {l : Locals} {fs : List MachineFrame} (c : Member) (base : ℕ)
      → member_type b.program c ≡ Some Condition → offer b.program v q ≡ NotifiesAll c r → HasFirst q c.monitor
      → holds r ≡ holds q → x ≡ Runs base [] l fs
      → StandAt b.code base (broadcast_code c (link_word b.program c.monitor) (member_address b.program c))
      → Stands b t (Runs (base + 16) [] l fs) r → Completes b t v x q

-- what is in view of a process
abbrev pub view_of : Build → Process → Variables → View
view_of b q v = record { program = b.program; own = own_of q; variables = v }

-- within so many steps to the one that completes what the process offers, or to the template that does
pub record Proceeds (b : Build) (t : ℕ) (v : Variables) (steps : ℕ) (x : Thread) (q : Process) : Type 0 where
  pub last : Thread
  pub walk : WalksWithin b.code t (view_of b q v) steps x last
  pub completes : Completes b t v last q
