-- Lists of rising numbers.
use Rattle.std.proofs.Common.{◌≡◌, ◌⊎◌, ℕ, zero, suc, ◌<◌, ◌≤◌, ◌+◌, List, [], ◌∷◌, Contains, refl, subst}
use Rattle.std.proofs.Common.{inl, inr, arith}
use Rattle.std.specs.List.Sorted.{IsStrictlyIncreasing}
use Rattle.std.specs.Prelude.{slice_index}

-- a number before greater ones that rise
pub rise_cons : (x : ℕ) (xs : List ℕ) → IsStrictlyIncreasing xs → ((q : ℕ) → Contains xs q → x < q)
    → IsStrictlyIncreasing (x ∷ xs)
rise_cons x [] rise above k less = absurd (omega (arith, less))
rise_cons x (y ∷ ys) rise above zero less = above y (zero, omega arith, refl)
rise_cons x (y ∷ ys) rise above (suc k) less =
    let e : suc (k + 1) ≡ suc k + 1 = omega arith in
    subst (λ j. slice_index (y ∷ ys) k < slice_index (x ∷ y ∷ ys) j) e (rise k (omega (arith, less)))

-- n numbers from k on
abbrev pub numbers : (n k : ℕ) → List ℕ
numbers zero k = []
numbers (suc n) k = k ∷ numbers n (suc k)

pub numbers_above : (n k q : ℕ) → Contains (numbers n k) q → k ≤ q
numbers_above zero k q (i, less, e) = absurd (omega (arith, less))
numbers_above (suc n) k q (zero, less, e) = let same : k ≡ q = e in omega (arith, same)
numbers_above (suc n) k q (suc i, less, e) =
    let above = numbers_above n (suc k) q (i, omega (arith, less), e) in omega (arith, above)

pub numbers_rise : (n k : ℕ) → IsStrictlyIncreasing (numbers n k)
numbers_rise zero k = λ i less. absurd (omega (arith, less))
numbers_rise (suc n) k =
    rise_cons k (numbers n (suc k)) (numbers_rise n (suc k))
    (λ q c. let above = numbers_above n (suc k) q c in omega (arith, above))

first_or_later : (n k q : ℕ) → k ≤ q → (k < q → Contains (numbers n (suc k)) q) → (k < q) ⊎ (q ≤ k)
    → Contains (numbers (suc n) k) q
first_or_later n k q low later (inl above) =
    let c = later above in let less = c.1 in (suc c.0, omega (arith, less), c.2)
first_or_later n k q low later (inr most) =
    let same : k ≡ q = omega (arith, low, most) in (zero, omega arith, same)

pub numbers_all : (n k q : ℕ) → k ≤ q → q < k + n → Contains (numbers n k) q
numbers_all zero k q low high = absurd (omega (arith, low, high))
numbers_all (suc n) k q low high =
    first_or_later n k q low (λ above. numbers_all n (suc k) q (omega (arith, above)) (omega (arith, high)))
    (grind arith)
