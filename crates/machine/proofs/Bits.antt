-- Words of bits, of which one is turned over.
use Rattle.std.proofs.Common.{◌≡◌, ◌≢◌, ℕ, zero, suc, ◌+◌, ◌-◌, ◌/◌, ◌%◌, ◌^◌, ◌<◌, ◌≤◌, Bool, true, false, not, eqb, List}
use Rattle.std.proofs.Common.{length, get_or, set, refl, ap, sym, ◌∙◌, arith, inl, inr}
use Rattle.std.proofs.lemmas.List.{get_or-set_same, get_or-set_other}
use Rattle.std.proofs.lemmas.Bool.{cases_eq}
use Rattle.std.specs.Int.{bit_at}
use Rattle.std.specs.Int.Bits.{bit_xor}
use Rattle.std.proofs.lemmas.Nat.Bits.{bit_at-lt, bit_at_xor, bit_at-pow_same, bit_at-pow_other}
use Rattle.machine.specs.ThreadSets.{with_turned, has_bit, IsMember}

other_bit : (m : ℕ) → m < 2 → eqb ((m + 1) % 2) 1 ≡ not (eqb m 1)
other_bit zero l = refl
other_bit (suc zero) l = refl
other_bit (suc (suc m)) l = absurd (omega arith)

same_bit : (m : ℕ) → m < 2 → eqb ((m + 0) % 2) 1 ≡ eqb m 1
same_bit zero l = refl
same_bit (suc zero) l = refl
same_bit (suc (suc m)) l = absurd (omega arith)

-- the bit that is turned over
pub turned_here : (words : List ℕ) (t : ℕ) → length words ≡ 16 → IsMember t
    → has_bit (with_turned words t) t ≡ not (has_bit words t)
turned_here words t long is =
    let a : ℕ = (t - 1) / 64 in
    let k : ℕ = (t - 1) % 64 in
    let w : ℕ = get_or words a 0 in
    let inside : a < length words = omega (arith, is.1, long) in
    ap (λ n. eqb (bit_at n k) 1) (get_or-set_same words a (bit_xor w (2 ^ k)) 0 inside)
    ∙ ap (λ n. eqb n 1) (bit_at_xor w (2 ^ k) k) ∙ ap (λ n. eqb ((bit_at w k + n) % 2) 1) (bit_at-pow_same k)
    ∙ other_bit (bit_at w k) (bit_at-lt w k)

-- the others
pub turned_there : (words : List ℕ) (t u : ℕ) → length words ≡ 16 → IsMember t → 1 ≤ u → u ≢ t
    → has_bit (with_turned words t) u ≡ has_bit words u
turned_there words t u long is le other =
    let a : ℕ = (t - 1) / 64 in
    let b : ℕ = (u - 1) / 64 in
    let k : ℕ = (t - 1) % 64 in
    let j : ℕ = (u - 1) % 64 in
    let w : ℕ = get_or words a 0 in
    let v : ℕ = bit_xor w (2 ^ k) in
    elim (cases_eq b a) [
      | inl e ↦
          let inside : a < length words = omega (arith, is.1, long) in
          let some : 1 ≤ t = is.0 in
          let apart : j ≢ k = λ q. other (omega (arith, q, e, some, le)) in
          let here : get_or (set words a v) b 0 ≡ v = ap (λ i. get_or (set words a v) i 0) e
          ∙ get_or-set_same words a v 0 inside in
          ap (λ n. eqb (bit_at n j) 1) here ∙ ap (λ n. eqb n 1) (bit_at_xor w (2 ^ k) j)
          ∙ ap (λ n. eqb ((bit_at w j + n) % 2) 1) (bit_at-pow_other k j apart)
          ∙ same_bit (bit_at w j) (bit_at-lt w j) ∙ ap (λ i. eqb (bit_at (get_or words i 0) j) 1) (sym e)
      | inr ne ↦ ap (λ n. eqb (bit_at n j) 1) (get_or-set_other words a b v 0 ne)
    ]

-- a bit that differs is turned to what it should be
pub turned_to : (a b : Bool) → a ≢ b → not a ≡ b
turned_to true true ne = absurd (ne refl)
turned_to true false ne = refl
turned_to false true ne = refl
turned_to false false ne = absurd (ne refl)
