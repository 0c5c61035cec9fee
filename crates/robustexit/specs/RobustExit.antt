-- One step of the exit of a thread t, as a relation (Documentation/locking/robust-futex-ABI; clone(2)), over the words,
-- as a function from addresses, and the sleepers. The first entry of t's list, its pending entry and its id are words
-- of its own.
use Rattle.std.specs.Prelude.{◌≡◌, ◌≢◌, ℕ, ◌+◌, ◌^◌, ◌<◌, true, false, if◌then◌else◌, Option, List, [], ◌⊎◌}
use Rattle.words.specs.LockWord.{lock_word, owner_of, waiters_of}
use Rattle.words.specs.Process.{process_word}
use Rattle.futexcalls.specs.FutexCalls.{Wakes}
pub use Rattle.words.specs.Updates.{put}
use Rattle.robustexit.specs.declared.phase.ExitPhase.{ExitPhase}
use Rattle.robustexit.specs.declared.phase.ExitPhase.TheVariants.{Entry, Pending, ClearId, LastWake, Ended}
use Rattle.robustexit.specs.Phases.{next_entry}
use Rattle.robustexit.specs.declared.rule.ExitRule.{ExitRule}
use Rattle.robustexit.specs.ExitRules.{wakes}

-- the words, and for each thread the address on which it sleeps
pub record Shared : Type 0 where
  pub word : ℕ → ℕ
  pub asleep : ℕ → Option ℕ

-- an entry: its first word is the link to the next, the word after that the lock word; both lie in the memory
abbrev pub IsEntry : ℕ → ℕ → Type 0
IsEntry size e = (0 < e) × (e + 1 < size) × (e + 1 < 2 ^ 32)

-- no word changes, and nobody is woken
pub record IsIdle (before : Shared) (woken : List ℕ) (after : Shared) : Type 0 where
  pub nobody : woken ≡ []
  pub same : after ≡ before

-- a lock that t owns: OWNER_DIED is set, WAITERS kept, the number cleared, and one is woken where WAITERS was set
pub record Abandons (t l : ℕ) (before : Shared) (woken : List ℕ) (after : Shared) : Type 0 where
  pub owned : owner_of (before.word l) ≡ t
  pub marks : after.word ≡ put before.word l (lock_word 0 true (waiters_of (before.word l)))
  pub wakes : Wakes before.asleep l (if waiters_of (before.word l) then 1 else 0) woken after.asleep

-- one sleeper on an address is woken, and no word changes
pub record WakesOne (a : ℕ) (before : Shared) (woken : List ℕ) (after : Shared) : Type 0 where
  pub same : after.word ≡ before.word
  pub wakes : Wakes before.asleep a 1 woken after.asleep

-- the step at entry e of the list
pub data EntryStep (size t e : ℕ) (before : Shared) (woken : List ℕ) (after : Shared) : Type 0 where
  -- it is the pending entry, which has a step of its own later
  IsPending : before.word (process_word t 1) ≡ e → IsIdle before woken after → EntryStep size t e before woken after
  -- another thread owns its lock, or none does
  IsForeign : owner_of (before.word (e + 1)) ≢ t → IsIdle before woken after → EntryStep size t e before woken after
  IsOwned : before.word (process_word t 1) ≢ e → Abandons t (e + 1) before woken after → EntryStep size t e before
      woken after

-- the step at the pending entry e, which t was acquiring or releasing: t may have taken a wake and not passed it on
pub data PendingStep (rule : ExitRule) (size t e : ℕ) (before : Shared) (woken : List ℕ) (after : Shared) : Type 0 where
  NoEntry : (IsEntry size e → ⊥) → IsIdle before woken after → PendingStep rule size t e before woken after
  -- another thread owns its lock, or none does: one is woken where the rule says so
  IsForeign : IsEntry size e → owner_of (before.word (e + 1)) ≢ t → wakes rule (before.word (e + 1)) ≡ true
      → WakesOne (e + 1) before woken after → PendingStep rule size t e before woken after
  IsPassed : IsEntry size e → owner_of (before.word (e + 1)) ≢ t → wakes rule (before.word (e + 1)) ≡ false
      → IsIdle before woken after → PendingStep rule size t e before woken after
  IsOwned : IsEntry size e → Abandons t (e + 1) before woken after → PendingStep rule size t e before woken after

-- one step, phase by phase: what it does, and the next phase
abbrev pub ExitStep : ExitRule → (size t : ℕ) → ExitPhase → Shared → List ℕ → Shared → ExitPhase → Type 0
ExitStep rule size t (Entry e seen) before woken after next =
    (IsEntry size e.0 × EntryStep size t e.0 before woken after × (next ≡ next_entry (before.word e.0) (seen + 1)))
    ⊎ ((IsEntry size e.0 → ⊥) × IsIdle before woken after × (next ≡ Pending))
ExitStep rule size t Pending before woken after next =
    PendingStep rule size t (before.word (process_word t 1)) before woken after × (next ≡ ClearId)
ExitStep rule size t ClearId before woken after next =
    (woken ≡ []) × (after ≡ record before { word = put before.word (process_word t 2) 0 }) × (next ≡ LastWake)
ExitStep rule size t LastWake before woken after next =
    WakesOne (process_word t 2) before woken after × (next ≡ Ended)
ExitStep rule size t Ended before woken after next = ⊥
