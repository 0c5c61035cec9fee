-- The parts of a lock word.
use Rattle.std.specs.Int.{bit_at}
use Rattle.std.proofs.Common.{zero, suc, ◌⊎◌, inl, inr, ◌≡◌, ℕ, ◌+◌, ◌*◌, ◌^◌, ◌<◌, ◌==◌, Bool, true, false, not}
use Rattle.std.proofs.Common.{refl, ap, ◌∙◌, arith}
use Rattle.std.specs.Prelude.{if◌then◌else◌}
use Rattle.std.specs.Int.Bits.{bit_and, bit_or, or_add_and}
use Rattle.std.proofs.lemmas.Nat.{and_mask}
use Rattle.std.proofs.lemmas.Nat.Bits.{and_pow, bit_at-lt}
use Rattle.words.specs.LockWord.{lock_word, owner_of, died_of, waiters_of}

pub owner_of-lock_word : (o : ℕ) (d w : Bool) → o < 2 ^ 30 → owner_of (lock_word o d w) ≡ o
owner_of-lock_word o true true h = omega (arith, and_mask (o + 1073741824 + 2147483648) 30)
owner_of-lock_word o false true h = omega (arith, and_mask (o + 0 + 2147483648) 30)
owner_of-lock_word o true false h = omega (arith, and_mask (o + 1073741824 + 0) 30)
owner_of-lock_word o false false h = omega (arith, and_mask (o + 0 + 0) 30)

pub mask_waiters : (o : ℕ) (d w : Bool) → o < 2 ^ 30 → bit_and (lock_word o d w) 2147483648
    ≡ (if w then 2147483648 else 0)
mask_waiters o true true h = omega (arith, and_pow (o + 1073741824 + 2147483648) 31)
mask_waiters o false true h = omega (arith, and_pow (o + 0 + 2147483648) 31)
mask_waiters o true false h = omega (arith, and_pow (o + 1073741824 + 0) 31)
mask_waiters o false false h = omega (arith, and_pow (o + 0 + 0) 31)

pub mask_died : (o : ℕ) (d w : Bool) → o < 2 ^ 30 → bit_and (lock_word o d w) 1073741824 ≡ (if d then 1073741824 else 0)
mask_died o true true h = omega (arith, and_pow (o + 1073741824 + 2147483648) 30)
mask_died o false true h = omega (arith, and_pow (o + 0 + 2147483648) 30)
mask_died o true false h = omega (arith, and_pow (o + 1073741824 + 0) 30)
mask_died o false false h = omega (arith, and_pow (o + 0 + 0) 30)

-- a flag is set where its bit isn't 0
flag : (b : Bool) (n : ℕ) → 0 < n → not ((if b then n else 0) == 0) ≡ b
flag true n h = grind arith
flag false n h = refl

pub died_of-lock_word : (o : ℕ) (d w : Bool) → o < 2 ^ 30 → died_of (lock_word o d w) ≡ d
died_of-lock_word o d w h = ap (λ n. not (n == 0)) (mask_died o d w h) ∙ flag d 1073741824 (omega arith)

pub waiters_of-lock_word : (o : ℕ) (d w : Bool) → o < 2 ^ 30 → waiters_of (lock_word o d w) ≡ w
waiters_of-lock_word o d w h = ap (λ n. not (n == 0)) (mask_waiters o d w h) ∙ flag w 2147483648 (omega arith)

pub set_waiters : (o : ℕ) (d w : Bool) → o < 2 ^ 30 → bit_or (lock_word o d w) 2147483648 ≡ lock_word o d true
set_waiters o true true h = omega (
  arith,
  mask_waiters o true true h,
  or_add_and (o + 1073741824 + 2147483648)
      2147483648,
)
set_waiters o false true h = omega (arith, mask_waiters o false true h, or_add_and (o + 0 + 2147483648) 2147483648)
set_waiters o true false h = omega (arith, mask_waiters o true false h, or_add_and (o + 1073741824 + 0) 2147483648)
set_waiters o false false h = omega (arith, mask_waiters o false false h, or_add_and (o + 0 + 0) 2147483648)

pub set_died : (o : ℕ) (d w : Bool) → o < 2 ^ 30 → bit_or (lock_word o d w) 1073741824 ≡ lock_word o true w
set_died o true true h = omega (arith, mask_died o true true h, or_add_and (o + 1073741824 + 2147483648) 1073741824)
set_died o false true h = omega (arith, mask_died o false true h, or_add_and (o + 0 + 2147483648) 1073741824)
set_died o true false h = omega (arith, mask_died o true false h, or_add_and (o + 1073741824 + 0) 1073741824)
set_died o false false h = omega (arith, mask_died o false false h, or_add_and (o + 0 + 0) 1073741824)

pub owner_of-small : (v : ℕ) → owner_of v < 2 ^ 30
owner_of-small v = omega (arith, and_mask v 30)

pub lock_word-fits : (o : ℕ) (d w : Bool) → o < 2 ^ 30 → lock_word o d w < 2 ^ 32
lock_word-fits o true true h = omega arith
lock_word-fits o false true h = omega arith
lock_word-fits o true false h = omega arith
lock_word-fits o false false h = omega arith

-- any word below 2^32 is the sum of its parts
by_bit : (x n b : ℕ) → b < 2 → x ≡ b * n → (x ≡ 0) ⊎ (x ≡ n)
by_bit x n zero h e = inl (omega arith)
by_bit x n (suc zero) h e = inr (omega arith)
by_bit x n (suc (suc b)) h e = absurd (omega arith)

sum_of_parts : (v : ℕ) → v < 2 ^ 32 → v ≡ owner_of v + bit_and v 1073741824 + bit_and v 2147483648
sum_of_parts v h = omega (arith, and_mask v 30, and_pow v 30, and_pow v 31)

-- a masked bit is that of its flag
bit_of_flag : (n x : ℕ) → 0 < n → (x ≡ 0) ⊎ (x ≡ n) → x ≡ (if not (x == 0) then n else 0)
bit_of_flag n x some (inl e) = grind arith
bit_of_flag n x some (inr e) = grind arith

died_or_not : (v : ℕ) → (bit_and v 1073741824 ≡ 0) ⊎ (bit_and v 1073741824 ≡ 1073741824)
died_or_not v = by_bit _ _ (bit_at v 30) (bit_at-lt v 30) (and_pow v 30)

waiters_or_not : (v : ℕ) → (bit_and v 2147483648 ≡ 0) ⊎ (bit_and v 2147483648 ≡ 2147483648)
waiters_or_not v = by_bit _ _ (bit_at v 31) (bit_at-lt v 31) (and_pow v 31)

pub lock_word-parts : (v : ℕ) → v < 2 ^ 32 → v ≡ lock_word (owner_of v) (died_of v) (waiters_of v)
lock_word-parts v h =
    let d = bit_of_flag 1073741824 (bit_and v 1073741824) (omega arith) (died_or_not v) in
    let w = bit_of_flag 2147483648 (bit_and v 2147483648) (omega arith) (waiters_or_not v) in
    sum_of_parts v h ∙ (λ i. owner_of v + d i + w i)
