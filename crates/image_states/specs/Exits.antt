-- What a step of an exit does, whoever sleeps.
use Rattle.std.specs.Prelude.{ℕ, ◌≡◌, ◌<◌, ⊤, Option, Some, None, List, [], slice_index, true}
use Rattle.words.specs.declared.mem.Addr.{Addr}
use Rattle.words.specs.Process.{process_word}
use Rattle.locals.specs.Threads.{Thread, Exits}
use Rattle.futexcalls.specs.FutexCalls.{Wakes}
use Rattle.robustexit.specs.declared.phase.ExitPhase.{ExitPhase}
use Rattle.robustexit.specs.declared.phase.ExitPhase.TheVariants.{Pending}
use Rattle.robustexit.specs.declared.rule.ExitRule.{ExitRule}
use Rattle.robustexit.specs.RobustExit.{Shared, ExitStep}
use Rattle.image_states.specs.Marks.{marked}
use Rattle.image_states.specs.Packed.{asleep_at, words_in}
use Rattle.image_states.specs.declared.exits.ExitPlan.{ExitPlan}
use Rattle.image_states.specs.declared.packed.Packed.{Packed as PackedOf}
use Rattle.image_states.specs.declared.parts.Parts.{Parts as PartsOf}

-- one sleeper is woken on this address, if there is one; or nobody is woken
abbrev pub WakesAt : Option Addr → (ℕ → Option ℕ) → List ℕ → (ℕ → Option ℕ) → Type 0
WakesAt None asleep woken after = (woken ≡ []) × (after ≡ asleep)
WakesAt (Some a) asleep woken after = Wakes asleep a.0 1 woken after

-- the rest of thread t's exit may be taken at once from here, in the memory of this number: it is past its robust list and
-- awake, it has no pending entry, and nobody sleeps on its id
pub record CanLeave (parts : PartsOf) (x : PackedOf) (t memory : ℕ) (here : Thread) : Type 0 where
  pub alone : parts.alone ≡ true
  pub stands : here ≡ Exits Pending
  pub awake : asleep_at x.places.items t ≡ None
  pub none : slice_index (words_in parts.memories.items memory) (process_word t 1) ≡ 0
  pub nobody : (u : ℕ) → asleep_at x.places.items u ≡ Some (process_word t 2) → ⊥

-- what comes of a step
pub record IsPlanned (plan : ExitPlan) (before : Shared) (woken : List ℕ) (after : Shared) (reached : ExitPhase) : Type 0 where
  pub next : reached ≡ plan.next
  pub words : after.word ≡ marked plan.marks before.word
  pub wakes : WakesAt plan.wakes before.asleep woken after.asleep

-- each step of thread t's exit by this rule in this phase is so, where these are the words
abbrev pub IsPlanOf : ExitRule → (size t : ℕ) → ExitPhase → (ℕ → ℕ) → ExitPlan → Type 0
IsPlanOf rule size t phase word plan = (asleep : ℕ → Option ℕ) (woken : List ℕ) (after : Shared) (next : ExitPhase)
    → ExitStep rule size t phase (record { word = word; asleep = asleep }) woken after next
    → IsPlanned plan (record { word = word; asleep = asleep }) woken after next

-- an address, should it be one, lies in a memory of so many words
abbrev pub IsAddressIn : ℕ → Option Addr → Type 0
IsAddressIn size None = ⊤
IsAddressIn size (Some a) = a.0 < size

-- so does that of a word that is changed
abbrev pub IsMarkIn : ℕ → Option (Addr × ℕ) → Type 0
IsMarkIn size None = ⊤
IsMarkIn size (Some (a, v)) = a.0 < size

-- and so do both of a step
pub record IsPlanIn (size : ℕ) (plan : ExitPlan) : Type 0 where
  pub marks : IsMarkIn size plan.marks
  pub wakes : IsAddressIn size plan.wakes
