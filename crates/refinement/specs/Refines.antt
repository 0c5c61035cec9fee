-- What the code owes to the program.
use Rattle.std.specs.Prelude.{ℕ, ◌≡◌, ◌<◌, ◌^◌, ◌⊎◌, Bool, true, false, List, length, map, filter, Some, None}
use Rattle.std.specs.Prelude.{is_some}
use Rattle.words.specs.Process.{process_word}
use Rattle.words.specs.Signed.{word_of}
use Rattle.isa.specs.Programs.{Program as Image}
use Rattle.locals.specs.declared.frame.Locals.{Locals}
use Rattle.locals.specs.declared.frame.Frame.{Frame}
use Rattle.locals.specs.Threads.{Thread, Runs}
use Rattle.locals.specs.Steps.{local_after}
use Rattle.machine.specs.States.{State, with_thread}
use Rattle.machine.specs.Runs.{Step, MachineRun, CanStep, NextIsBroken, has_ended}
use Rattle.program.specs.declared.kinds.Member.{Member}
use Rattle.program.specs.Trees.{Program}
use Rattle.meaning.specs.Labels.{Kind, Stray, Kill, Action}
use Rattle.meaning.specs.States.{SourceState}
use Rattle.meaning.specs.Runs.{IsRun, CanMove}
use Rattle.proof_thread.specs.Variables.{variable_address, IsVariable}
use Rattle.refinement.specs.Seen.{machine_end, source_end}
use Rattle.refinement.specs.Monitors.{machine_hold, StandsAsleep}
use Rattle.refinement.specs.Outside.{stray_threads, killed_threads}
use Rattle.refinement.specs.Pace.{KeepsPace, stretch_length}

-- the thread sleeps
abbrev pub Sleeps : State → ℕ → Type 0
Sleeps s t = (a : ℕ) × (s.asleep t ≡ Some a)

-- thread t has ended
abbrev pub HasEnded : State → ℕ → Type 0
HasEnded s t = has_ended (s.thread t) ≡ true

-- the thread runs code, and its pending word is 0
abbrev pub RunsFreely : State → ℕ → Type 0
RunsFreely s t =
    (place : ℕ) × (operands : List ℕ) × (locals : Locals) × (callers : List Frame)
    × (s.thread t ≡ Some (Runs place operands locals callers)) × (s.word (process_word t 1) ≡ 0)

-- actions that come from outside: a wake that nobody called for, and a kill
abbrev pub is_stray_kind : Kind → Bool
is_stray_kind (Stray c) = true
is_stray_kind other = false

-- whether an action is a kill
abbrev pub is_kill_kind : Kind → Bool
is_kill_kind (Kill resumed last) = true
is_kill_kind other = false

-- the processes of the actions of some kinds, in their order
abbrev pub processes_of : (Kind → Bool) → List Action → List ℕ
processes_of test actions = map (λ a. a.process) (filter (λ a. test a.kind) actions)

-- one run of the source explains a run of the machine
pub record Explained (p : Program) (image : Image) (steps : List Step) (s : State) : Type 0 where
  -- no thread's next step is broken
  pub sound : (t : ℕ) → NextIsBroken image s t → ⊥
  pub actions : List Action
  pub source : SourceState
  pub run : IsRun p actions source
  -- the same is seen at both ends
  pub output : s.output ≡ source.printed
  pub variables : (m : Member) (i : ℕ) → IsVariable p m i → s.word (variable_address p m i) ≡ word_of
      (source.variable m.monitor m.number i)
  pub ends : (q : ℕ) → machine_end s q ≡ source_end source q
  -- thread q was made just where process q was
  pub made : (q : ℕ) → is_some (s.thread q) ≡ is_some (source.process q)
  -- lock words tell which monitors are free, which abandoned, and who holds the others
  pub locks : (m : ℕ) → m < length p.monitors → machine_hold p s m ≡ source.table.hold m
  -- who sleeps does so on the word of what its process waits for
  pub asleep : (q a : ℕ) → s.asleep q ≡ Some a → StandsAsleep p source q a
  -- no wake was lost: where no thread can move, no process can
  pub at_rest : ((t : ℕ) → CanStep s t → ⊥) → (q : ℕ) → CanMove p source q → ⊥
  -- nor can one whose thread sleeps, where all others are outside the taking and giving up of locks
  pub sleepers : ((t : ℕ) (x : Thread) → s.thread t ≡ Some x → Sleeps s t ⊎ (HasEnded s t ⊎ RunsFreely s t))
      → (t : ℕ) → Sleeps s t → CanMove p source t → ⊥
  -- the source goes on with the machine
  pub pace : KeepsPace (stretch_length p) steps actions
  -- what came from outside is the same, in order
  pub strays : processes_of is_stray_kind actions ≡ stray_threads p steps
  pub kills : processes_of is_kill_kind actions ≡ killed_threads steps

-- each run of the machine on the image, of fewer than 2^32 steps, is explained by a run of the program; and a thread
-- that goes on behind it by local steps alone, however many they are, comes to no step that may not be
pub record Refines (p : Program) (image : Image) : Type 0 where
  pub follows : (steps : List Step) (s : State) → MachineRun image steps s → length steps < 2 ^ 32
      → Explained p image steps s
  pub locally : (steps : List Step) (s : State) → MachineRun image steps s → length steps < 2 ^ 32
      → (t n : ℕ) (x y : Thread) → s.thread t ≡ Some x → s.asleep t ≡ None → local_after image t n x ≡ Some y
      → NextIsBroken image (with_thread s t y) t → ⊥
