-- Where a thread of the machine stands, the process that it stands for, its point of the protocol and its robust list.
use Rattle.std.specs.Prelude.{ℕ, ◌+◌, ◌≡◌, ◌≢◌, ◌<◌, ◌≤◌, ℤ, List, [], length, Option, Some, None}
use Rattle.words.specs.declared.outcome.Fault.{Fault}
use Rattle.words.specs.declared.outcome.Fault.TheVariants.{HandleNotJoinable}
use Rattle.robustexit.specs.declared.phase.ExitPhase.{ExitPhase}
use Rattle.robustexit.specs.declared.phase.ExitPhase.TheVariants.{Entry, ClearId, LastWake, Ended as Ended'}
use Rattle.program.specs.declared.kinds.Role.TheVariants.{Main}
use Rattle.program.specs.Limits.{most_monitors}
use Rattle.program.specs.Trees.{Program, Part}
use Rattle.locals.specs.Threads.{Thread, Dies as Dies', Exits}
use Rattle.locals.specs.Looks.{Asks, look, first_exit}
use Rattle.meaning.specs.Values.{Variables}
use Rattle.meaning.specs.Labels.{End, Ended, Aborted, Faulted, Killed, Label, Enters, Resumes, Exits as Exits', Waits}
use Rattle.meaning.specs.Labels.{Abandons, Ends}
use Rattle.meaning.specs.Processes.{Frame, Caller, Process, Joining, Dying, Leaving, Over, goes_on, with_result, holds}
use Rattle.meaning.specs.Processes.{all_monitors}
use Rattle.meaning.specs.Offers.{Effect, ClaimsOne, after_join, offer, TakesUp}
use Rattle.protocol.specs.Points.{Entry as PendingEntry, NoEntry, Point, Unmade, Runs, JoinReads, JoinSleeps}
use Rattle.protocol.specs.Points.{JoinLearns, JoinTakes, MeetsClaimed, Dies, Walks, ClearsId, LastWakes, HasEnded}
use Rattle.protocol.specs.Exits.{PhaseIs}
use Rattle.proof_thread.specs.Deferrals.{mark_of, last_mark}
use Rattle.proof_thread.specs.Following.{Build, StepsWithin}
use Rattle.proof_thread.specs.Completing.{Awaits, Proceeds, return_request, left_value, IsResult, join_steps}
use Rattle.proof_thread.specs.Builds.{most_steps}
use Rattle.proof_templates.specs.Layout.{place, valid}
use Rattle.proof_templates.specs.Asking.{template_steps}
use Rattle.proof_templates.specs.Inside.{Template, process_at, list_at, StandsIn, TemplateFits, SameBefore, IsSteady}
use Rattle.proof_simulation.specs.Killing.{IsOfProgram, last_of, left_of}

-- a process that ends next, or once it has abandoned the monitors that it holds
abbrev pub ending : End → List ℕ → Process
ending (Ended z) ms = Leaving z
ending (Aborted cause) ms = Dying cause ms

-- a process that leaves holds none
abbrev pub IsEnding : End → List ℕ → Type 0
IsEnding (Ended z) ms = ms ≡ []
IsEnding (Aborted cause) ms = Unit {0}

-- how many entries the walk of an exit has seen
abbrev pub entries_seen : ExitPhase → ℕ
entries_seen (Entry entry seen) = seen
entries_seen phase = 0

-- the main part has no callers
abbrev pub IsLast : Frame → List Caller → Type 0
IsLast f cs = f.role ≡ Main → cs ≡ []

-- the child that is joined was made
pub record IsChild (b : Build) (child : ℕ) (f : Frame) (cs : List Caller) : Type 0 where
  pub some : 0 < child
  pub made : child ≤ b.made
  pub last : IsLast f cs

-- an action that neither takes a monitor nor gives one up, and doesn't end the process
abbrev pub KeepsMonitors : Label → Type 0
KeepsMonitors (Enters m was_abandoned) = ⊥
KeepsMonitors (Resumes m was_abandoned) = ⊥
KeepsMonitors (Exits' m) = ⊥
KeepsMonitors (Waits c) = ⊥
KeepsMonitors (Abandons m) = ⊥
KeepsMonitors (Ends end) = ⊥
KeepsMonitors label = Unit {0}

-- a process that holds these monitors, and joins from the main part only without callers
abbrev pub Holds : List ℕ → Process → Type 0
Holds ms (Joining child into part f cs) = (all_monitors f cs ≡ ms) × IsLast f cs
Holds ms q = holds q ≡ ms

-- a process in its own code is steady, and its actions but those keep the monitors that it holds
pub record IsAtWork (p : Program) (q : Process) (v : Variables) : Type 0 where
  pub steady : IsSteady p q v
  pub keeps : (label : Label) (effect : Effect) (r : Process) → KeepsMonitors label
      → TakesUp (offer p v q) label effect r → Holds (holds q) r

-- where thread t stands, over these variables, with the process that it stands for, its point and its robust list
pub data StandsAt (b : Build) (v : Variables) (t : ℕ) : Option Thread → Option Process → Point → List ℕ → Type 0 where
  unmade : StandsAt b v t None None Unmade []
  -- in its own code; and where its first procedure returns
  works : {x : Thread} {q : Process} (left : ℕ) → left ≤ most_steps b + template_steps → Proceeds b t v left x q
      → IsAtWork b.program q v → StandsAt b v t (Some x) (Some q) Runs (holds q)
  returns : {x : Thread} (result : Option ℕ) → IsResult result
      → look b.code.image t x ≡ Asks (return_request result) first_exit → last_mark (mark_of b.code.marks x) ≡ None
      → StandsAt b v t (Some x) (Some (Leaving (left_value result))) Runs []
  -- in a template of its code, to which it came over the variables `u`, on the way to the request of its point
  inside : {x y : Thread} {pt : Point} (left : ℕ) (k : Template) (u : Variables) → left ≤ template_steps
      → StepsWithin b t left x y → TemplateFits b u t k → SameBefore k pt u v → pt ≢ Runs → StandsIn b.program t k pt y
      → StandsAt b v t (Some x) (Some (process_at b.program k pt)) pt (list_at k pt)
  -- at a fault that it met in the source already
  faults : {ms : List ℕ} (fault : Fault)
      → StandsAt b v t (Some (Dies' (Faulted fault))) (Some (Dying (Faulted fault) ms)) (Dies (Faulted fault) NoEntry) ms
  -- killed, before the first step of its exit
  killed : {x : PendingEntry} {ms : List ℕ} → IsOfProgram b.program x
      → StandsAt b v t (Some (Dies' Killed)) (Some (Dying Killed (left_of (last_of x) ms))) (Dies Killed x) ms
  -- refused a process that was claimed before: on the way to the fault, which the source still has before it
  refused : {child : ℕ} {x : Thread} {q joining : Process} (left : ℕ) → left ≤ join_steps
      → StepsWithin b t left x (Dies' (Faulted HandleNotJoinable))
      → offer b.program v q ≡ ClaimsOne child joining (Dying (Faulted HandleNotJoinable) (holds q))
      → IsSteady b.program q v → StandsAt b v t (Some x) (Some q) (MeetsClaimed child) (holds q)
  -- in a JOIN: on the way to each of its requests
  reads : {child : ℕ} {x : Thread} {into : Option ℕ} {part : Part} {f : Frame} {cs : List Caller} (left : ℕ)
      → left ≤ join_steps → IsChild b child f cs → (j : Awaits b t child into part f cs)
      → StepsWithin b t left x j.reads
      → StandsAt b v t (Some x) (Some (Joining child into part f cs)) (JoinReads child) (all_monitors f cs)
  sleeps : {child : ℕ} {x : Thread} {into : Option ℕ} {part : Part} {f : Frame} {cs : List Caller} (left : ℕ)
      → left ≤ join_steps → IsChild b child f cs → (j : Awaits b t child into part f cs)
      → StepsWithin b t left x j.sleeps
      → StandsAt b v t (Some x) (Some (Joining child into part f cs)) (JoinSleeps child) (all_monitors f cs)
  learns : {child : ℕ} {end : End} {x : Thread} {into : Option ℕ} {part : Part} {f : Frame} {cs : List Caller}
      (left : ℕ) → left ≤ join_steps → IsChild b child f cs → (j : Awaits b t child into part f cs)
      → StepsWithin b t left x j.learns
      → StandsAt b v t (Some x) (Some (after_join into part f cs end)) (JoinLearns child end) (all_monitors f cs)
  takes : {child : ℕ} {z : ℤ} {x : Thread} {into : Option ℕ} {part : Part} {f : Frame} {cs : List Caller} (left : ℕ)
      → left ≤ join_steps → IsChild b child f cs → (j : Awaits b t child into part f cs)
      → StepsWithin b t left x j.takes
      → StandsAt b v t (Some x) (Some (goes_on None (with_result into z f) cs)) (JoinTakes child (Ended z))
      (all_monitors f cs)
  -- in its exit: at an entry of its robust list, or behind the last; and then
  walks : {e : ℕ} {x : PendingEntry} {end : End} {ms : List ℕ} (phase : ExitPhase)
      → PhaseIs (place b.program) (valid b.program) (Walks e x end) phase
      → entries_seen phase + length ms ≤ most_monitors
      → IsEnding end (left_of (last_of x) ms) → IsOfProgram b.program x
      → StandsAt b v t (Some (Exits phase)) (Some (ending end (left_of (last_of x) ms))) (Walks e x end) ms
  clears : {end : End} {ms : List ℕ} → StandsAt b v t (Some (Exits ClearId)) (Some (ending end [])) (ClearsId end) ms
  wakes : {end : End} {ms : List ℕ} → StandsAt b v t (Some (Exits LastWake)) (Some (Over end)) (LastWakes end) ms
  rests : {end : End} {ms : List ℕ} → StandsAt b v t (Some (Exits Ended')) (Some (Over end)) (HasEnded end) ms
