-- Sets of threads into which others go, and out of which they come, all at once.
use Rattle.std.proofs.Common.{◌≡◌, ◌⊎◌, ℕ, zero, suc, ◌+◌, ◌-◌, ◌/◌, ◌%◌, ◌<◌, ◌≤◌, true, false, eqb, min, max}
use Rattle.std.proofs.Common.{List, length, length-set, get_or, set, replicate, inl, inr, refl, ap, sym, ◌∙◌, arith, subst}
use Rattle.std.specs.Int.{bit_at, bit_not, w64}
use Rattle.std.specs.Int.Bits.{bit_and, bit_or}
use Rattle.std.proofs.Math.ListN.{get_or-eq_default}
use Rattle.std.proofs.lemmas.Bool.{cases_eq, cases_lt}
use Rattle.std.proofs.lemmas.List.{get_or-replicate, get_or-set_same, get_or-set_other, length-replicate}
use Rattle.std.proofs.lemmas.Nat.Bits.{bit_at-zero, bit_at-lt, bit_at_and, bit_at_not, bit_at_ones, bit_at_or}
use Rattle.machine.specs.ThreadSets.{has_bit, IsMember}

abbrev bit_of : (words : List ℕ) (t : ℕ) → ℕ
bit_of words t = bit_at (get_or words ((t - 1) / 64) 0) ((t - 1) % 64)

past_end : (words : List ℕ) (t : ℕ) → length words ≤ (t - 1) / 64 → has_bit words t ≡ false
past_end words t past =
    ap (λ (n : ℕ). eqb (bit_at n ((t - 1) % 64)) 1) (get_or-eq_default words 0 past)
    ∙ ap (λ (n : ℕ). eqb n 1) (bit_at-zero ((t - 1) % 64))

pub none_there : (n t : ℕ) → has_bit (replicate n 0) t ≡ false
none_there n t = elim (cases_lt ((t - 1) / 64) n) [
  | inl inside ↦
      ap (λ (w : ℕ). eqb (bit_at w ((t - 1) % 64)) 1) (get_or-replicate n ((t - 1) / 64) 0 0 inside)
      ∙ ap (λ (w : ℕ). eqb w 1) (bit_at-zero ((t - 1) % 64))
  | inr past ↦ past_end (replicate n 0) t (omega (arith, past, length-replicate {A = ℕ} n 0))
]

-- how far words were joined, in this way: up to a place
pub record IsJoined (R : ℕ → ℕ → ℕ → Type 0) (start others now : List ℕ) (place : ℕ) : Type 0 where
  pub few : place ≤ 16
  pub long : length now ≡ length start
  pub done : (i : ℕ) → i < place → R (get_or now i 0) (get_or start i 0) (get_or others i 0)
  pub rest : (i : ℕ) → place ≤ i → get_or now i 0 ≡ get_or start i 0

pub not_yet : (R : ℕ → ℕ → ℕ → Type 0) (start others : List ℕ) → IsJoined R start others start 0
not_yet R start others = record {
  few = omega arith;
  long = refl;
  done = λ i less. absurd (omega (arith, less));
  rest = λ i from. refl;
}

pub one_more : (R : ℕ → ℕ → ℕ → Type 0) (start others now : List ℕ) (place n : ℕ) → length start ≡ 16
    → IsJoined R start others now place → place < 16 → R n (get_or now place 0) (get_or others place 0)
    → IsJoined R start others (set now place n) (place + 1)
one_more R start others now place n long j less joined = record {
  few = omega (arith, less);
  long = length-set now place n ∙ j.long;
  done = λ i below. elim (cases_eq i place) [
    | inl e ↦
        subst (λ (k : ℕ). R (get_or (set now place n) k 0) (get_or start k 0) (get_or others k 0)) (sym e)
        (subst (λ (x : ℕ). R x (get_or start place 0) (get_or others place 0))
        (sym (get_or-set_same now place n 0 (omega (arith, long, j.long, less))))
        (subst (λ (x : ℕ). R n x (get_or others place 0)) (j.rest place (omega arith)) joined))
    | inr other ↦
        subst (λ (x : ℕ). R x (get_or start i 0) (get_or others i 0)) (sym (get_or-set_other now place i n 0 other))
        (j.done i (omega (arith, below, other)))
  ];
  rest = λ i from.
      get_or-set_other now place i n 0 (λ (e : i ≡ place). omega (arith, e, from)) ∙ j.rest i (omega (arith, from));
}

-- each word with all bits of another, or without them
abbrev pub With : ℕ → ℕ → ℕ → Type 0
With n a b = n ≡ bit_or a b

abbrev pub Without : ℕ → ℕ → ℕ → Type 0
Without n a b = (k : ℕ) → k < 64 → bit_at n k ≡ min (bit_at a k) (1 - bit_at b k)

pub without_so : (a b k : ℕ) → b < 18446744073709551616 → k < 64
    → bit_at (bit_and a (bit_not w64 b)) k ≡ min (bit_at a k) (1 - bit_at b k)
without_so a b k small inside =
    bit_at_and a (bit_not w64 b) k ∙ ap (min (bit_at a k)) (bit_at_not w64 b k small inside)

-- what all of them joined have
none_of : (m n : ℕ) → m < 2 → n < 2 → eqb (max m n) 1 ≡ false → (eqb m 1 ≡ false) × (eqb n 1 ≡ false)
none_of zero zero l r h = (refl, refl)
none_of zero (suc zero) l r h = absurd cc
none_of (suc zero) zero l r h = absurd cc
none_of (suc zero) (suc zero) l r h = absurd cc
none_of (suc (suc m)) n l r h = absurd (omega arith)
none_of m (suc (suc n)) l r h = absurd (omega arith)

pub put_so : (start others now : List ℕ) (t place : ℕ) → length start ≡ 16 → length others ≡ 16 → 16 ≤ place
    → IsJoined With start others now place → has_bit now t ≡ false
    → (has_bit start t ≡ false) × (has_bit others t ≡ false)
put_so start others now t place long wide end j out = elim (cases_lt ((t - 1) / 64) 16) [
  | inr past ↦ (past_end start t (omega (arith, past, long)), past_end others t (omega (arith, past, wide)))
  | inl inside ↦
      let i : ℕ = (t - 1) / 64 in
      let k : ℕ = (t - 1) % 64 in
      none_of (bit_of start t) (bit_of others t) (bit_at-lt (get_or start i 0) k) (bit_at-lt (get_or others i 0) k)
      (ap (λ (n : ℕ). eqb n 1) (sym (bit_at_or (get_or start i 0) (get_or others i 0) k))
      ∙ ap (λ (w : ℕ). eqb (bit_at w k) 1) (sym (j.done i (omega (arith, inside, end)))) ∙ out)
]

-- and what is left of them
left_of : (m n : ℕ) → m < 2 → n < 2 → eqb (min m (1 - n)) 1 ≡ false → (eqb m 1 ≡ false) ⊎ (eqb n 1 ≡ true)
left_of zero n l r h = inl refl
left_of (suc zero) zero l r h = absurd cc
left_of (suc zero) (suc zero) l r h = inr refl
left_of (suc (suc m)) n l r h = absurd (omega arith)
left_of (suc zero) (suc (suc n)) l r h = absurd (omega arith)

pub take_so : (start others now : List ℕ) (t place : ℕ) → length start ≡ 16 → 16 ≤ place
    → IsJoined Without start others now place → has_bit now t ≡ false
    → (has_bit start t ≡ false) ⊎ (has_bit others t ≡ true)
take_so start others now t place long end j out = elim (cases_lt ((t - 1) / 64) 16) [
  | inr past ↦ inl (past_end start t (omega (arith, past, long)))
  | inl inside ↦
      let i : ℕ = (t - 1) / 64 in
      let k : ℕ = (t - 1) % 64 in
      left_of (bit_of start t) (bit_of others t) (bit_at-lt (get_or start i 0) k) (bit_at-lt (get_or others i 0) k)
      (ap (λ (n : ℕ). eqb n 1) (sym (j.done i (omega (arith, inside, end)) k (omega arith))) ∙ out)
]

pub all_there : (t : ℕ) → IsMember t → has_bit (replicate 16 18446744073709551615) t ≡ true
all_there t is =
    let i : ℕ = (t - 1) / 64 in
    let k : ℕ = (t - 1) % 64 in
    ap (λ (w : ℕ). eqb (bit_at w k) 1) (get_or-replicate 16 i 18446744073709551615 0 (omega (arith, is.1)))
    ∙ ap (λ (n : ℕ). eqb n 1) (bit_at_ones 64 k (omega arith))
