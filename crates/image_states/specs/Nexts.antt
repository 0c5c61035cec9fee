-- What may come next of a packed state.
use Rattle.std.specs.Prelude.{ℕ, suc, ◌≡◌, ◌≤◌, ◌+◌, ◌⊎◌, List, Option, Some, Contains, length, false, true, slice_index, slice_get, ℤ}
use Rattle.isa.specs.Programs.{Program}
use Rattle.locals.specs.Threads.{Thread, is_dying}
use Rattle.robustexit.specs.ExitRules.{exit_of}
use Rattle.robustexit.specs.declared.phase.ExitPhase.{ExitPhase}
use Rattle.locals.specs.Looks.{look, Leaves}
use Rattle.locals.specs.Steps.{local_after}
use Rattle.machine.specs.States.{State, with_thread}
use Rattle.machine.specs.Runs.{Step, IsKillStep, IsStrayStep}
use Rattle.proof_pieces.specs.WholeCalls.{IsWholeDone, IsWholeStep, MovesWhole}
use Rattle.proof_image_search.specs.Searching.{May, Kept, IsCovered, IsNamed, kills_by}
use Rattle.image_states.specs.declared.outside.Outside.{Outside}
use Rattle.image_states.specs.declared.packed.Packed.{Packed as PackedOf}
use Rattle.image_states.specs.declared.next.Next.{Next as NextOf}
use Rattle.image_states.specs.declared.parts.Parts.{Parts as PartsOf}
use Rattle.image_states.specs.Packed.{kept_of, unpacked, IsWithin, IsGrown, IsPrefix, IsMoved}

-- what may come from outside
abbrev pub may_of : Outside → May
may_of outside = record { strays = outside.strays; kills = outside.kills }

-- thread t comes from x to y by so many local steps, by none of which it begins to die
pub record RunsOn (p : Program) (t count : ℕ) (x y : Thread) : Type 0 where
  pub goes : local_after p t count x ≡ Some y
  pub lives : (count ≡ 0) ⊎ (is_dying y ≡ false)

-- where the packed state is kept, this state is covered, with so many kills
abbrev pub Covers : Program → PartsOf → PackedOf → State → ℕ → Type 0
Covers p parts y s n =
    (kept : List Kept) → Contains kept (kept_of p parts y) → (m : ℕ) × IsCovered p parts.alone kept m s n

-- one of the next states covers this one
pub record Reaches (p : Program) (parts : PartsOf) (nexts : List NextOf) (s : State) (n : ℕ) : Type 0 where
  pub next : NextOf
  pub found : Contains nexts next
  pub within : IsWithin parts next.state
  pub covers : Covers p parts next.state s n

-- there are more parts, and more next states
pub record IsMore (a : PartsOf) (xs : List NextOf) (b : PartsOf) (ys : List NextOf) : Type 0 where
  pub parts : IsGrown a b
  pub nexts : IsPrefix xs ys

-- whatever a step of this thread leads to that is searched, the state itself covers, or one of the next states
abbrev pub IsDone : Program → May → PartsOf → PackedOf → List NextOf → ℕ → Type 0
IsDone p may parts x nexts t = (step : Step) (s' : State) → step.thread ≡ t
    → IsWholeDone p (unpacked p parts x) step s' step.doing → IsNamed may step.doing
    → x.killed + kills_by step.doing ≤ may.kills
    → Covers p parts x s' (x.killed + kills_by step.doing) ⊎ Reaches p parts nexts s' (x.killed + kills_by step.doing)

-- and that of each thread
abbrev pub AreNexts : Program → May → PartsOf → PackedOf → List NextOf → Type 0
AreNexts p may parts x nexts = (t : ℕ) → IsDone p may parts x nexts t

-- whatever thread t's own step leads to that looks so, one of the next states covers
abbrev pub MovesTo : Program → PartsOf → PackedOf → List NextOf → ℕ → Thread → Type 0
MovesTo p parts x nexts t here = (woken : List ℕ) (s' : State)
    → MovesWhole (exit_of p.version) (unpacked p parts x) t woken (look p t here) s' → Reaches p parts nexts s' x.killed

-- the state with these words, these sleepers and this output
abbrev pub shaped : State → List ℕ → (ℕ → Option ℕ) → List ℤ → State
shaped s words asleep output = record s {
  word = λ a. slice_index words a;
  size = length words;
  asleep = asleep;
  output = output;
}

-- a packed state in which the thread behind so many others has gone from here by local steps, and the memory has this
-- number
pub record IsBase (p : Program) (parts : PartsOf) (x : PackedOf) (k memory : ℕ) (here : Thread) (y : PackedOf) : Type 0 where
  pub part : ℕ
  pub count : ℕ
  pub there : Thread
  pub moved : IsMoved x y k memory part
  pub is : slice_get parts.locals.items part ≡ Some there
  pub runs : RunsOn p (suc k) count here there

-- one of the next states covers that in which thread t stands here, with these words and these sleepers, whatever was
-- printed
abbrev pub ReachesAt : Program → PartsOf → PackedOf → List NextOf → ℕ → List ℕ → (ℕ → Option ℕ) → Thread → Type 0
ReachesAt p parts x nexts t words asleep here = (output : List ℤ)
    → Reaches p parts nexts (with_thread (shaped (unpacked p parts x) words asleep output) t here) x.killed

-- whatever a step of thread t's exit in this phase leads to, one of the next states covers
abbrev pub LeavesTo : Program → PartsOf → PackedOf → List NextOf → ℕ → ExitPhase → Type 0
LeavesTo p parts x nexts t phase = (woken : List ℕ) (s' : State)
    → MovesWhole (exit_of p.version) (unpacked p parts x) t woken (Leaves phase) s' → Reaches p parts nexts s' x.killed

-- whatever a step of thread t's own leads to, one of the next states covers
abbrev pub OwnDone : Program → PartsOf → PackedOf → List NextOf → ℕ → Type 0
OwnDone p parts x nexts t = (woken : List ℕ) (s' : State) → IsWholeStep p (unpacked p parts x) t woken s'
    → Reaches p parts nexts s' x.killed

-- and a wake of it that nobody called for
abbrev pub StrayDone : Program → PartsOf → PackedOf → List NextOf → ℕ → Type 0
StrayDone p parts x nexts t = (a : ℕ) (step : Step) (s' : State) → step.thread ≡ t
    → IsStrayStep a (unpacked p parts x) step s' → Reaches p parts nexts s' x.killed

-- and a kill by which it begins to die
abbrev pub KillDone : Program → PartsOf → PackedOf → List NextOf → ℕ → Type 0
KillDone p parts x nexts t = (step : Step) (s' : State) → step.thread ≡ t
    → IsKillStep true (unpacked p parts x) step s' → Reaches p parts nexts s' (x.killed + 1)
