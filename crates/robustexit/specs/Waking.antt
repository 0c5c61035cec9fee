-- Where a step of an exit wakes.
use Rattle.std.specs.Prelude.{◌≡◌, ◌≢◌, ℕ, ◌+◌, true, ◌⊎◌}
use Rattle.words.specs.LockWord.{owner_of, waiters_of}
use Rattle.words.specs.Process.{process_word}
use Rattle.robustexit.specs.declared.phase.ExitPhase.{ExitPhase}
use Rattle.robustexit.specs.declared.phase.ExitPhase.TheVariants.{Entry, Pending, ClearId, LastWake, Ended}
use Rattle.robustexit.specs.RobustExit.{IsEntry}
use Rattle.robustexit.specs.declared.rule.ExitRule.{ExitRule}
use Rattle.robustexit.specs.ExitRules.{wakes}

-- the step of thread t's exit in this phase wakes on the word at a, should anybody sleep on it
abbrev pub WakesOn : ExitRule → (size t : ℕ) → ExitPhase → (ℕ → ℕ) → ℕ → Type 0
WakesOn rule size t (Entry e seen) word a =
    IsEntry size e.0 × (word (process_word t 1) ≢ e.0) × (owner_of (word (e.0 + 1)) ≡ t)
    × (waiters_of (word (e.0 + 1)) ≡ true) × (a ≡ e.0 + 1)
WakesOn rule size t Pending word a =
    IsEntry size (word (process_word t 1)) × (a ≡ word (process_word t 1) + 1)
    × (((owner_of (word a) ≢ t) × (wakes rule (word a) ≡ true)) ⊎ ((owner_of (word a) ≡ t) × (waiters_of (word a) ≡ true)))
WakesOn rule size t ClearId word a = ⊥
WakesOn rule size t LastWake word a = a ≡ process_word t 2
WakesOn rule size t Ended word a = ⊥
