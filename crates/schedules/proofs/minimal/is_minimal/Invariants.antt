use Rattle.std.proofs.Common.{◌<◌, ℕ}
use Rattle.schedules.specs.Failing.{FailsOn}
use Rattle.schedules.specs.Minimal.{without}
use Rattle.schedules.proofs.minimal.is_minimal.Given as goal

-- none of the first ones can be left out
abbrev pub invariant-loop-place : goal.invariant-loop-place
invariant-loop-place l = (k : ℕ) → k < l.place → FailsOn l.image (without k l.schedule) l.failure → ⊥
