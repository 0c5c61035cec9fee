-- How a command that failed ends.
use Rattle.std.proofs.Common.{ℕ, List, inl, inr}
use Rattle.answers.specs.declared.failure.Failure.{Failure}
use Rattle.answers.specs.declared.status.Status.{Status}
use Rattle.mesamon.specs.Commands.{IsToldFailed}

-- that a failure was named, where another device may have failed too
pub told_failed_by : (Told : List ℕ → Type 0) (F G : Type 0) (hints : List ℕ) (f : Failure) (s : Status) → (F → G)
    → IsToldFailed Told F hints f s → IsToldFailed Told G hints f s
told_failed_by Told F G hints f s by (inl (inl named)) = inl (inl named)
told_failed_by Told F G hints f s by (inl (inr (is, fails))) = inl (inr (is, by fails))
told_failed_by Told F G hints f s by (inr (inl memory)) = inr (inl memory)
told_failed_by Told F G hints f s by (inr (inr (is, fails))) = inr (inr (is, by fails))
