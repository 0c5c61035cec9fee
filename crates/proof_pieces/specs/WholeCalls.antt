-- The machine with whole futex calls. A requeue moves whatever the word: that it is as expected is seen in a step
-- before.
use Rattle.std.specs.Prelude.{ℕ, ◌≡◌, ◌≢◌, ◌+◌, ◌⊎◌, Option, Some, None, List, [], length}
use Rattle.isa.specs.Programs.{Program}
use Rattle.futexcalls.specs.Pieces.{RequeuesCompared}
use Rattle.robustexit.specs.RobustExit.{Shared, ExitStep}
use Rattle.robustexit.specs.declared.phase.ExitPhase.{ExitPhase}
use Rattle.locals.specs.Threads.{Thread, Exits}
use Rattle.locals.specs.Looks.{Request, AskRequeue, Look, Goes, Asks, Leaves, Breaks, Rests, look}
use Rattle.machine.specs.States.{State, with_thread, with_sleepers}
use Rattle.machine.specs.AbstractServing.{Serves, Lies, shared_of, with_shared}
use Rattle.machine.specs.Runs.{Step, Doing, Own, Strayed, Killed, IsStrayStep, IsKillStep}
use Rattle.robustexit.specs.declared.rule.ExitRule.{ExitRule}
use Rattle.robustexit.specs.ExitRules.{exit_of}

-- how a request is served: as the machine serves it, but for what the requeue compares
abbrev pub ServesWhole : ℕ → Request → State → List ℕ → ℕ → State → Type 0
ServesWhole t (AskRequeue a b n m expected) s woken answer s' =
    Lies s a × Lies s b
    × (((moved : List ℕ) × (after : ℕ → Option ℕ) × RequeuesCompared s.asleep a b n m woken moved after
    × (answer ≡ length woken + length moved) × (s' ≡ with_sleepers s after))
    ⊎ ((s.word a ≢ expected) × (woken ≡ []) × (answer ≡ 4294967295) × (s' ≡ s)))
ServesWhole t request s woken answer s' = Serves t request s woken answer s'

-- what a thread that looks so does in one step, where exits are by this rule
abbrev pub MovesWhole : ExitRule → State → ℕ → List ℕ → Look → State → Type 0
MovesWhole rule s t woken (Goes x) s' = (woken ≡ []) × (s' ≡ with_thread s t x)
MovesWhole rule s t woken (Asks request go) s' =
    (answer : ℕ) × (mid : State) × ServesWhole t request s woken answer mid × (s' ≡ with_thread mid t (go answer))
MovesWhole rule s t woken (Leaves phase) s' =
    (after : Shared) × (next : ExitPhase) × ExitStep rule s.size t phase (shared_of s) woken after next
    × (s' ≡ with_thread (with_shared s after) t (Exits next))
MovesWhole rule s t woken Breaks s' = ⊥
MovesWhole rule s t woken Rests s' = ⊥

-- one step of a thread that was made and doesn't sleep
pub record IsWholeStep (p : Program) (s : State) (t : ℕ) (woken : List ℕ) (s' : State) : Type 0 where
  pub thread : Thread
  pub stands : s.thread t ≡ Some thread
  pub awake : s.asleep t ≡ None
  pub moves : MovesWhole (exit_of p.version) s t woken (look p t thread) s'

-- a step, by what it is: what comes from outside comes as it does to the machine
abbrev pub IsWholeDone : Program → State → Step → State → Doing → Type 0
IsWholeDone p s step s' Own = IsWholeStep p s step.thread step.woken s'
IsWholeDone p s step s' (Strayed a) = IsStrayStep a s step s'
IsWholeDone p s step s' (Killed begins) = IsKillStep begins s step s'
