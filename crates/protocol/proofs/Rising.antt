-- Who is resumed is a list of rising numbers.
use Rattle.std.proofs.Common.{◌≡◌, ℕ, zero, suc, ◌<◌, ◌≤◌, Bool, true, false, Option, List, ◌∷◌}
use Rattle.std.proofs.Common.{Contains, arith}
use Rattle.std.specs.List.Sorted.{IsStrictlyIncreasing}
use Rattle.program.specs.declared.kinds.Member.{Member}
use Rattle.meaning.specs.Table.{Table}
use Rattle.meaning.proofs.Rising.{rise_cons}
use Rattle.protocol.specs.Points.{Spot}
use Rattle.protocol.specs.Waiters.{chosen_from, is_resumed, resumed_by, with_number}
use Rattle.protocol.specs.World.{World}

with_rise : (b : Bool) (k : ℕ) (xs : List ℕ) → IsStrictlyIncreasing xs → ((q : ℕ) → Contains xs q → suc k ≤ q)
    → IsStrictlyIncreasing (with_number b k xs) × ((q : ℕ) → Contains (with_number b k xs) q → k ≤ q)
with_rise false k xs rise above = (rise, λ q c. let l = above q c in omega (arith, l))
with_rise true k xs rise above = (rise_cons k xs rise (λ q c. let l = above q c in omega (arith, l)), here)
  where
    here : (q : ℕ) → Contains (k ∷ xs) q → k ≤ q
    here q (zero, less, e) = let same : k ≡ q = e in omega (arith, same)
    here q (suc i, less, e) = let l = above q (i, omega (arith, less), e) in omega (arith, l)

-- the numbers from k on of which a test holds rise, and none is below k
chosen_rise : (test : ℕ → Bool) (n k : ℕ) → IsStrictlyIncreasing (chosen_from test n k)
    × ((q : ℕ) → Contains (chosen_from test n k) q → k ≤ q)
chosen_rise test zero k = (
  λ i less. absurd (omega (arith, less)),
  λ q c. let less : c.0 < 0 = c.1 in absurd (omega (arith, less)),
)
chosen_rise test (suc n) k =
    let h = chosen_rise test n (suc k) in with_rise (test k) k (chosen_from test n (suc k)) h.0 h.1

pub resumed_rise : (w : World) (T : Table) (c : Member) (asleep' : ℕ → Option Spot)
    → IsStrictlyIncreasing (resumed_by w T c asleep')
resumed_rise w T c asleep' = (chosen_rise (is_resumed c asleep' T.waits) w.made 1).0
