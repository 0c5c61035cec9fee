-- The machine's own steps are steps of the relation.
use Rattle.std.specs.Prelude.{ℕ, ◌≡◌, ◌==◌, ◌↔◌, List, [], ◌∷◌, true, false, None, Ok, Err}
use Rattle.isa.specs.Programs.{Program}
use Rattle.machine.specs.declared.event.Event.{Event}
use Rattle.machine.specs.declared.event.StepFault.TheVariants.{CannotMove, Broken}
use Rattle.machine.specs.ThreadSets.{set_of}
use Rattle.machine.specs.States.{ConcreteState, opening_concrete, opening_state, state_of}
use Rattle.machine.specs.Runs.{Own, Strayed, Killed, IsStep, CanStep, NextIsBroken, is_paused}
use Rattle.machine.specs.ConcreteSteps.{step_of, can_move}
use Rattle.machine.specs.ConcreteOutside.{stray_of, kill_of}
use Rattle.machine.specs.Views.{IsWellFormed}

-- the concrete state at the start stands for the opening state, and what always holds holds of it
abbrev pub OpensSo : Type 0
OpensSo = (p : Program) → (state_of (opening_concrete p) ≡ opening_state p) × IsWellFormed p (opening_concrete p)

-- a step that is done is a step of the relation that wakes those of its event, and keeps what always holds
abbrev pub StepsSo : Type 0
StepsSo =
    (p : Program) (k k' : ConcreteState) (t : ℕ) (e : Event) → IsWellFormed p k → step_of p k t ≡ Ok (k', e)
    → (woken : List ℕ) × (e.woken ≡ set_of woken)
    × IsStep p (state_of k)
    (record { thread = t; woken = woken; pauses = is_paused (state_of k') t; doing = Own }) (state_of k')
    × IsWellFormed p k'

-- a step is Broken exactly where the thread's next step may not be
abbrev pub BreaksSo : Type 0
BreaksSo = (p : Program) (k : ConcreteState) (t : ℕ) → IsWellFormed p k
    → (step_of p k t ≡ Err Broken) ↔ NextIsBroken p (state_of k) t

-- a step is refused with CannotMove exactly where the thread can't step
abbrev pub RefusesSo : Type 0
RefusesSo = (p : Program) (k : ConcreteState) (t : ℕ)
    → (step_of p k t ≡ Err CannotMove) ↔ (CanStep (state_of k) t → ⊥)

-- a thread can move exactly where it can step
abbrev pub MovesSo : Type 0
MovesSo = (k : ConcreteState) (t : ℕ) → (can_move k t ≡ true) ↔ CanStep (state_of k) t

-- a wake from outside is one of the relation, of a thread that slept at the address that the event tells
abbrev pub StraysSo : Type 0
StraysSo = (p : Program) (k k' : ConcreteState) (t : ℕ) (e : Event) → IsWellFormed p k → stray_of k t ≡ Ok (k', e)
    → (e.woken ≡ set_of (t ∷ []))
    × IsStep p (state_of k) (record { thread = t; woken = t ∷ []; pauses = false; doing = Strayed e.value })
    (state_of k') × IsWellFormed p k'

-- it is refused exactly where the thread doesn't sleep
abbrev pub StrayRefusedSo : Type 0
StrayRefusedSo = (k : ConcreteState) (t : ℕ) → (stray_of k t ≡ Err CannotMove) ↔ ((state_of k).asleep t ≡ None)

-- a kill is one of the relation, by which the thread begins to die just where the event's value is 1
abbrev pub KillsSo : Type 0
KillsSo = (p : Program) (k k' : ConcreteState) (t : ℕ) (e : Event) → IsWellFormed p k → kill_of k t ≡ Ok (k', e)
    → (e.woken ≡ set_of [])
    × IsStep p (state_of k) (record { thread = t; woken = []; pauses = false; doing = Killed (e.value == 1) })
    (state_of k') × IsWellFormed p k'

-- it is refused exactly where no such thread was made
abbrev pub KillRefusedSo : Type 0
KillRefusedSo = (k : ConcreteState) (t : ℕ) → (kill_of k t ≡ Err CannotMove) ↔ ((state_of k).thread t ≡ None)
