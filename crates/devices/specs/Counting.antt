-- What a counted reader or writer is over, and how many of its calls have failed.
use Rattle.std.specs.Prelude.{ℕ, ◌+◌, ◌-◌, ◌^◌, ◌≤◌, min}
use Rattle.devices.specs.declared.counted.Counted.{Counted}

-- the reader or writer that is counted
abbrev pub inner_of : {X : Type 0} → Counted X → X
inner_of c = c.inner

-- how many calls have failed, at most 2^64 - 1
abbrev pub failures_of : {X : Type 0} → Counted X → ℕ
failures_of c = c.failures

-- a count that has risen, or is the greatest
pub record HasRisen (m n : ℕ) : Type 0 where
  pub from : m ≤ n
  pub one : min (m + 1) (2 ^ 64 - 1) ≤ n

-- a call or more has failed
abbrev pub HasFailed : {X : Type 0} → Counted X → Counted X → Type 0
HasFailed old new = HasRisen (failures_of old) (failures_of new)
