-- Counts that rise.
use Rattle.std.proofs.Common.{◌≡◌, ◌≤◌, ◌+◌, ◌⊎◌, inl, inr, ℕ, arith}
use Rattle.devices.specs.Counting.{HasRisen}

-- a count that has risen since a time has risen since an earlier one
pub risen_since : (l m n : ℕ) → l ≤ m → HasRisen m n → HasRisen l n
risen_since l m n before h =
    let from = h.from in
    let one = h.one in
    record { from = omega arith; one = omega arith }

-- a count that has risen by a time has risen by a later one
pub risen_by : (l m n : ℕ) → HasRisen l m → m ≤ n → HasRisen l n
risen_by l m n h after =
    let from = h.from in
    let one = h.one in
    record { from = omega arith; one = omega arith }

-- by each call the count of failures has risen, or another byte has come
pub calls_after : (old mid new calls before after n : ℕ) → new ≡ mid → after ≡ before + n → 1 ≤ n
    → HasRisen old mid ⊎ (calls ≤ before) → HasRisen old new ⊎ (calls + 1 ≤ after)
calls_after old mid new calls before after n same long some (inl h) =
    inl (risen_by old mid new h (omega arith))
calls_after old mid new calls before after n same long some (inr h) = inr (omega arith)
