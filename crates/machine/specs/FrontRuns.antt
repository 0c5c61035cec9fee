-- The runs of the machine itself, in which each wake and each move takes from the front of the address's list, and who
-- sleeps may wake though nobody called for it, and a thread may be killed.
use Rattle.std.specs.Prelude.{ℕ, ◌≡◌, ◌==◌, ◌⊎◌, List, [], ◌∷◌, Ok, map}
use Rattle.isa.specs.Programs.{Program}
use Rattle.machine.specs.declared.event.Event.{Event}
use Rattle.machine.specs.declared.event.EventName.{EventName}
use Rattle.machine.specs.declared.event.EventName.TheVariants as name
use Rattle.machine.specs.declared.thread_set.ThreadSet.{ThreadSet}
use Rattle.machine.specs.ThreadSets.{set_of}
use Rattle.machine.specs.States.{ConcreteState, state_of, opening_concrete}
use Rattle.machine.specs.Runs.{Doing, Own, Strayed, Killed, Step, MachineRun}
use Rattle.machine.specs.ConcreteSteps.{step_of}
use Rattle.machine.specs.ConcreteOutside.{stray_of, kill_of}

-- a step of the machine itself, by its thread and its event
pub record EventStep : Type 0 where
  pub thread : ℕ
  pub event : Event

-- a wake or a kill of thread t from outside, with this event
abbrev pub OutsideStep : ConcreteState → (t : ℕ) → Event → ConcreteState → Type 0
OutsideStep k t event k' = (stray_of k t ≡ Ok (k', event)) ⊎ (kill_of k t ≡ Ok (k', event))

-- its thread's own step, or a wake or a kill of it from outside
abbrev pub FrontStep : Program → ConcreteState → EventStep → ConcreteState → Type 0
FrontStep p k s k' = (step_of p k s.thread ≡ Ok (k', s.event)) ⊎ OutsideStep k s.thread s.event k'

-- steps of the machine itself, one after another
abbrev pub FrontRun : Program → ConcreteState → List EventStep → ConcreteState → Type 0
FrontRun p k [] k' = k ≡ k'
FrontRun p k (s ∷ steps) k' = (mid : ConcreteState) × FrontStep p k s mid × FrontRun p mid steps k'

-- what is seen of a step: its thread, the threads that it woke, and what it is
pub record Label : Type 0 where
  pub thread : ℕ
  pub woken : ThreadSet
  pub doing : Doing

-- a step of the machine as its label: who moved or woke, and whom that woke
abbrev pub label_of : Step → Label
label_of s = record { thread = s.thread; woken = set_of s.woken; doing = s.doing }

-- what a step is, by the name and the value of its event
abbrev pub doing_of : EventName → (value : ℕ) → Doing
doing_of name.Stray v = Strayed v
doing_of name.Kill v = Killed (v == 1)
doing_of _ v = Own

-- a step with an event as its label
abbrev pub event_label : EventStep → Label
event_label s =
    record { thread = s.thread; woken = s.event.woken; doing = doing_of s.event.name s.event.value }

-- a run of the machine itself is a run of the relation, step by step: of the same threads, which wake the same, and with the
-- same wakes and kills from outside
abbrev pub FrontsRunSo : Type 0
FrontsRunSo =
    (p : Program) (k : ConcreteState) (steps : List EventStep) → FrontRun p (opening_concrete p) steps k
    → (run : List Step) × MachineRun p run (state_of k) × (map label_of run ≡ map event_label steps)
