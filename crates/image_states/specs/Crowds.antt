-- More threads that sleep on one address than those of which a search tries each choice.
use Rattle.std.specs.Prelude.{ℕ, zero, suc, ◌<◌, ◌+◌, ◌==◌, Option, None, Some, if◌then◌else◌}

-- 1 for a thread that sleeps on this address
abbrev pub counted : Option ℕ → ℕ → ℕ
counted None a = 0
counted (Some b) a = if b == a then 1 else 0

-- how many of the first n threads sleep on it
abbrev pub sleepers_on : (ℕ → Option ℕ) → (a n : ℕ) → ℕ
sleepers_on asleep a zero = 0
sleepers_on asleep a (suc n) = sleepers_on asleep a n + counted (asleep (suc n)) a

-- more than twelve threads sleep on one address
abbrev pub IsCrowded : (ℕ → Option ℕ) → Type 0
IsCrowded asleep = (a : ℕ) × (n : ℕ) × (12 < sleepers_on asleep a n)
