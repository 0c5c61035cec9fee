-- The bits of those who wait.
use Rattle.std.proofs.Common.{◌≡◌, ℕ, zero, suc, ◌-◌, ◌/◌, ◌%◌, ◌<◌, ◌≤◌, ◌||◌, Bool, true, false, eqb, max, List, [], ◌∷◌}
use Rattle.std.proofs.Common.{length, get_or, length-set, replicate, refl, ap, sym, ◌∙◌, arith, inl, inr}
use Rattle.std.proofs.Math.ListN.{get_or-eq_default}
use Rattle.std.proofs.lemmas.Bool.{cases_lt}
use Rattle.std.proofs.lemmas.List.{get_or-replicate}
use Rattle.std.specs.Int.{bit_at}
use Rattle.std.specs.Int.Bits.{bit_or, or_zero_r}
use Rattle.std.proofs.lemmas.Nat.Bits.{bit_at-zero, bit_at-lt, bit_at_or}
use Rattle.machine.proofs.Sets.{bit_more}
use Rattle.machine.specs.declared.thread_set.ThreadSet.TheVariants.{Several}
use Rattle.machine.specs.ThreadSets.{IsThread, has}
use Rattle.workers.specs.declared.bucket_waiters.BucketWaiters.{BucketWaiters}
use Rattle.workers.specs.declared.bucket_waiters.BucketWaiters.TheVariants.{Nobody as Nobody', Waiters}
use Rattle.workers.specs.BucketWaiters.{IsWhole, WaitersSo, joined, or_words, waits, with_waiter}

tested : (m n : ℕ) → m < 2 → n < 2 → eqb (max m n) 1 ≡ (eqb m 1 || eqb n 1)
tested zero zero l r = refl
tested zero (suc zero) l r = refl
tested (suc zero) zero l r = refl
tested (suc zero) (suc zero) l r = refl
tested (suc (suc m)) n l r = absurd (omega arith)
tested m (suc (suc n)) l r = absurd (omega arith)

swapped : (a b : Bool) → (a || b) ≡ (b || a)
swapped true true = refl
swapped true false = refl
swapped false true = refl
swapped false false = refl

-- a word of two together
pub or_at : (ws vs : List ℕ) (j : ℕ) → length ws ≡ length vs
    → get_or (or_words ws vs) j 0 ≡ bit_or (get_or ws j 0) (get_or vs j 0)
or_at [] [] j same = sym (or_zero_r 0)
or_at [] (v ∷ vs) j same = absurd (omega (arith, same))
or_at (w ∷ ws) [] j same = absurd (omega (arith, same))
or_at (w ∷ ws) (v ∷ vs) zero same = refl
or_at (w ∷ ws) (v ∷ vs) (suc j) same = or_at ws vs j (omega (arith, same))

pub or_length : (ws vs : List ℕ) → length (or_words ws vs) ≡ length ws
or_length [] vs = refl
or_length (w ∷ ws) [] = refl
or_length (w ∷ ws) (v ∷ vs) = ap suc (or_length ws vs)

or_none : (a : Bool) → (a || false) ≡ a
or_none true = refl
or_none false = refl

-- nobody's words
abbrev zeros : List ℕ
zeros = replicate 16 0

zero_at : (j : ℕ) → get_or zeros j 0 ≡ (let z : ℕ = 0 in z)
zero_at j = elim (cases_lt j 16) [
  | inl l ↦ get_or-replicate 16 j 0 0 l
  | inr ge ↦ get_or-eq_default zeros 0 ge
]

none_set : (u : ℕ) → has (Several zeros) u ≡ false
none_set u = ap (λ (n : ℕ). eqb (bit_at n ((u - 1) % 64)) 1) (zero_at ((u - 1) / 64))
    ∙ ap (λ (n : ℕ). eqb n 1) (bit_at-zero ((u - 1) % 64))

added : (waiters : BucketWaiters) (t u : ℕ) → IsWhole waiters → IsThread t → 1 ≤ u
    → waits (with_waiter waiters t) u ≡ (eqb u t || waits waiters u)
added Nobody' t u whole is le = bit_more zeros t u refl (is.0, omega (arith, is.1)) le
    ∙ ap (λ (b : Bool). b || eqb u t) (none_set u) ∙ sym (or_none (eqb u t))
added (Waiters words) t u whole is le = bit_more words t u whole (is.0, omega (arith, is.1)) le
    ∙ swapped (has (Several words) u) (eqb u t)

whole_more : (waiters : BucketWaiters) (t : ℕ) → IsWhole waiters → IsWhole (with_waiter waiters t)
whole_more Nobody' t whole = length-set zeros ((t - 1) / 64) _
whole_more (Waiters words) t whole = length-set words ((t - 1) / 64) _ ∙ whole

both : (a b : BucketWaiters) (t : ℕ) → IsWhole a → IsWhole b → waits (joined a b) t ≡ (waits a t || waits b t)
both Nobody' b t whole whole' = refl
both (Waiters ws) Nobody' t whole whole' = sym (or_none (waits (Waiters ws) t))
both (Waiters ws) (Waiters vs) t whole whole' =
    ap (λ (n : ℕ). eqb (bit_at n ((t - 1) % 64)) 1) (or_at ws vs ((t - 1) / 64) (whole ∙ sym whole'))
    ∙ ap (λ (n : ℕ). eqb n 1) (bit_at_or (get_or ws ((t - 1) / 64) 0) (get_or vs ((t - 1) / 64) 0) ((t - 1) % 64))
    ∙ tested _ _ (bit_at-lt _ _) (bit_at-lt _ _)

pub waiters_so : WaitersSo
waiters_so = record { none = λ t. refl; added = added; whole = whole_more; both = both }
