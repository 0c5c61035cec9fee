-- The forms of a set of threads.
use Rattle.std.proofs.Common.{◌≡◌, ◌≢◌, ℕ, zero, suc, ◌+◌, ◌-◌, ◌*◌, ◌/◌, ◌%◌, ◌^◌, ◌<◌, ◌≤◌, Bool, true, false}
use Rattle.std.proofs.Common.{◌||◌, eqb, max, List, [], ◌∷◌, length, get_or, set, replicate, fold, refl, ap, sym, ◌∙◌}
use Rattle.std.proofs.Common.{subst, arith, inl, inr, length-set}
use Rattle.std.specs.Prelude.{⊤}
use Rattle.std.specs.List.{All}
use Rattle.std.proofs.Math.Nat.{mod-eq_of_lt}
use Rattle.std.proofs.Math.Pow.{pow-lt}
use Rattle.std.proofs.Math.ListN.{get_or-eq_default}
use Rattle.std.proofs.lemmas.List.{get_or-set_same, get_or-set_other, get_or-replicate, ext_get_or}
use Rattle.std.proofs.lemmas.Bool.{cases_eq, cases_lt, eq-eqb, eqb-true, ne_eqb, both_ways, cond-true, cond-false}
use Rattle.std.proofs.lemmas.Nat.{or_lt}
use Rattle.std.specs.Int.{bit_at}
use Rattle.std.specs.Int.Bits.{bit_or}
use Rattle.std.proofs.lemmas.Nat.Bits.{bit_at-zero, bit_at-lt, bit_at_or, bit_at-pow_same, bit_at-pow_other}
use Rattle.std.proofs.lemmas.Nat.Bits.{same_from_bits_below}
use Rattle.buckets.specs.Places.{names}
use Rattle.machine.specs.declared.thread_set.ThreadSet.{ThreadSet}
use Rattle.machine.specs.declared.thread_set.ThreadSet.TheVariants.{Nobody, Single, Several}
use Rattle.machine.specs.ThreadSets.{with_bit, with_thread, set_of, has, IsThread, IsMember, HasMember, SetsSo, OneForm}

-- the bit of one thread, as it is shifted there
pub bit_fits : (q : ℕ) → 1 * 2 ^ (q % 64) % 18446744073709551616 ≡ 2 ^ (q % 64)
bit_fits q =
    let small : 2 ^ (q % 64) < 2 ^ 64 = pow-lt {i = q % 64} {j = 64} (omega arith) in
    let one : 1 * 2 ^ (q % 64) ≡ 2 ^ (q % 64) = omega arith in
    ap (λ n. n % 18446744073709551616) one ∙ mod-eq_of_lt small

or_none : (a : Bool) → (a || false) ≡ a
or_none true = refl
or_none false = refl

or_same : (a : Bool) → a ≡ (a || a)
or_same true = refl
or_same false = refl

or_steps : (a b c : Bool) → ((a || b) || c) ≡ (a || (b || c))
or_steps true b c = refl
or_steps false b c = refl

tested : (m n : ℕ) → m < 2 → n < 2 → eqb (max m n) 1 ≡ (eqb m 1 || eqb n 1)
tested zero zero l r = refl
tested zero (suc zero) l r = refl
tested (suc zero) zero l r = refl
tested (suc zero) (suc zero) l r = refl
tested (suc (suc m)) n l r = absurd (omega arith)
tested m (suc (suc n)) l r = absurd (omega arith)

same_bit : (m n : ℕ) → m < 2 → n < 2 → eqb m 1 ≡ eqb n 1 → m ≡ n
same_bit zero zero l r e = refl
same_bit (suc zero) (suc zero) l r e = refl
same_bit zero (suc zero) l r e = absurd cc
same_bit (suc zero) zero l r e = absurd cc
same_bit (suc (suc m)) n l r e = absurd (omega arith)
same_bit m (suc (suc n)) l r e = absurd (omega arith)

-- the bit of t alone, at a number of the same word
one_bit : (t u : ℕ) → 1 ≤ t → 1 ≤ u → (u - 1) / 64 ≡ (t - 1) / 64
    → eqb (bit_at (2 ^ ((t - 1) % 64)) ((u - 1) % 64)) 1 ≡ eqb u t
one_bit t u some le e = elim (cases_eq u t) [
  | inl is ↦ rw (is, eq-eqb t t refl, bit_at-pow_same ((t - 1) % 64)) refl
  | inr ne ↦
      let apart : (u - 1) % 64 ≢ (t - 1) % 64 = λ q. ne (omega (arith, q, e, some, le)) in
      rw (ne_eqb u t ne, bit_at-pow_other ((t - 1) % 64) ((u - 1) % 64) apart) refl
]

-- the bits of words, and one more
pub bit_more : (words : List ℕ) (t u : ℕ) → length words ≡ 16 → IsMember t → 1 ≤ u
    → has (Several (with_bit words t)) u ≡ (has (Several words) u || eqb u t)
bit_more words t u long is le =
    let a : ℕ = (t - 1) / 64 in
    let b : ℕ = (u - 1) / 64 in
    let k : ℕ = (u - 1) % 64 in
    let v : ℕ = bit_or (get_or words a 0) (2 ^ ((t - 1) % 64)) in
    elim (cases_eq b a) [
      | inl e ↦
          let inside : a < length words = omega (arith, is.1, long) in
          let here : get_or (set words a v) b 0 ≡ v = ap (λ j. get_or (set words a v) j 0) e
          ∙ get_or-set_same words a v 0 inside in
          ap (λ n. eqb (bit_at n k) 1) here ∙ ap (λ n. eqb n 1) (bit_at_or (get_or words a 0) (2 ^ ((t - 1) % 64)) k)
          ∙ tested _ _ (bit_at-lt _ _) (bit_at-lt _ _)
          ∙ (λ i. eqb (bit_at (get_or words (sym e i) 0) k) 1 || one_bit t u is.0 le e i)
      | inr ne ↦
          ap (λ n. eqb (bit_at n k) 1) (get_or-set_other words a b v 0 ne) ∙ sym (or_none _)
          ∙ ap (λ x. has (Several words) u || x) (sym (ne_eqb u t (λ q. ne (ap (λ n. (n - 1) / 64) q))))
    ]

-- the words of nobody
abbrev pub zeros : List ℕ
zeros = replicate 16 0

zero_at : (j : ℕ) → get_or zeros j 0 ≡ 0
zero_at j = elim (cases_lt j 16) [
  | inl l ↦ get_or-replicate 16 j 0 0 l
  | inr ge ↦ get_or-eq_default zeros 0 ge
]

pub none_set : (u : ℕ) → has (Several zeros) u ≡ false
none_set u = ap (λ n. eqb (bit_at n ((u - 1) % 64)) 1) (zero_at ((u - 1) / 64))
    ∙ ap (λ n. eqb n 1) (bit_at-zero ((u - 1) % 64))

-- the words stay 16
kept_length : (words : List ℕ) (t : ℕ) → length words ≡ 16 → length (with_bit words t) ≡ 16
kept_length words t long =
    length-set words ((t - 1) / 64) (bit_or (get_or words ((t - 1) / 64) 0) (2 ^ ((t - 1) % 64))) ∙ long

two_bits : (v t u : ℕ) → IsMember v → IsMember t → 1 ≤ u
    → has (Several (with_bit (with_bit zeros v) t)) u ≡ (eqb u v || eqb u t)
two_bits v t u first is le = bit_more (with_bit zeros v) t u (kept_length zeros v refl) is le
    ∙ ap (λ b. b || eqb u t) (bit_more zeros v u refl first le ∙ ap (λ b. b || eqb u v) (none_set u))

-- words of two threads and more
record IsSeveral (words : List ℕ) : Type 0 where
  long : length words ≡ 16
  small : (i : ℕ) → get_or words i 0 < 2 ^ 64
  one : ℕ
  other : ℕ
  differ : one ≢ other
  one_some : 1 ≤ one
  other_some : 1 ≤ other
  has_one : has (Several words) one ≡ true
  has_other : has (Several words) other ≡ true

-- the one form of a set
abbrev IsFormed : ThreadSet → Type 0
IsFormed Nobody = ⊤
IsFormed (Single t) = IsMember t
IsFormed (Several words) = IsSeveral words

small_bit : (words : List ℕ) (t : ℕ) → length words ≡ 16 → IsMember t → ((i : ℕ) → get_or words i 0 < 2 ^ 64) → (i : ℕ)
    → get_or (with_bit words t) i 0 < 2 ^ 64
small_bit words t long is small i =
    let a : ℕ = (t - 1) / 64 in
    let v : ℕ = bit_or (get_or words a 0) (2 ^ ((t - 1) % 64)) in
    elim (cases_eq i a) [
      | inl e ↦
          let inside : a < length words = omega (arith, is.1, long) in
          let here : get_or (set words a v) i 0 ≡ v = ap (λ j. get_or (set words a v) j 0) e
          ∙ get_or-set_same words a v 0 inside in
          rw here (or_lt 64 (get_or words a 0) (2 ^ ((t - 1) % 64)) (small a) (pow-lt {i = (t - 1) % 64} {j = 64} (omega arith)))
      | inr ne ↦ rw (get_or-set_other words a i v 0 ne) (small i)
    ]

-- a thread more, in each form
has_more : (s : ThreadSet) (t u : ℕ) → IsFormed s → IsMember t → 1 ≤ u → has (with_thread s t) u ≡ (has s u || eqb u t)
has_more Nobody t u formed is le = refl
has_more (Single v) t u formed is le = elim (cases_eq t v) [
  | inl e ↦ ap (λ s. has s u) (cond-true _ _ _ (eq-eqb t v e)) ∙ or_same (eqb u v) ∙ ap (λ w. eqb u v || eqb u w) (sym e)
  | inr ne ↦ ap (λ s. has s u) (cond-false _ _ _ (ne_eqb t v ne)) ∙ two_bits v t u formed is le
]
has_more (Several words) t u formed is le = bit_more words t u formed.long is le

two_several : (v t : ℕ) → IsMember v → IsMember t → t ≢ v → IsSeveral (with_bit (with_bit zeros v) t)
two_several v t first is ne = record {
  long = kept_length (with_bit zeros v) t (kept_length zeros v refl);
  small = small_bit (with_bit zeros v) t (kept_length zeros v refl) is
      (small_bit zeros v refl first (λ i. rw (zero_at i) (omega arith)));
  one = v;
  other = t;
  differ = λ e. ne (sym e);
  one_some = first.0;
  other_some = is.0;
  has_one = two_bits v t v first is first.0 ∙ ap (λ b. b || eqb v t) (eq-eqb v v refl);
  has_other = two_bits v t t first is is.0 ∙ ap (λ b. eqb t v || b) (eq-eqb t t refl) ∙ or_true (eqb t v);
} where
  or_true : (a : Bool) → (a || true) ≡ true
  or_true true = refl
  or_true false = refl

formed_more : (s : ThreadSet) (t : ℕ) → IsFormed s → IsMember t → IsFormed (with_thread s t)
formed_more Nobody t formed is = is
formed_more (Single v) t formed is = elim (cases_eq t v) [
  | inl e ↦ subst IsFormed (sym (cond-true _ _ _ (eq-eqb t v e))) formed
  | inr ne ↦ subst IsFormed (sym (cond-false _ _ _ (ne_eqb t v ne))) (two_several v t formed is ne)
]
formed_more (Several words) t formed is = record {
  long = kept_length words t formed.long;
  small = small_bit words t formed.long is formed.small;
  one = formed.one;
  other = formed.other;
  differ = formed.differ;
  one_some = formed.one_some;
  other_some = formed.other_some;
  has_one = bit_more words t formed.one formed.long is formed.one_some ∙ ap (λ b. b || eqb formed.one t) formed.has_one;
  has_other = bit_more words t formed.other formed.long is formed.other_some
      ∙ ap (λ b. b || eqb formed.other t) formed.has_other;
}

rest_of : (x : ℕ) (xs : List ℕ) → All IsMember (x ∷ xs) → All IsMember xs
rest_of x xs all i d l = all (suc i) d (omega (arith, l))

formed_fold : (xs : List ℕ) (s : ThreadSet) → IsFormed s → All IsMember xs → IsFormed (fold with_thread s xs)
formed_fold [] s formed all = formed
formed_fold (x ∷ xs) s formed all =
    formed_fold xs (with_thread s x) (formed_more s x formed (all 0 0 (omega arith))) (rest_of x xs all)

has_fold : (xs : List ℕ) (s : ThreadSet) (u : ℕ) → IsFormed s → All IsMember xs → 1 ≤ u
    → has (fold with_thread s xs) u ≡ (has s u || names xs u)
has_fold [] s u formed all le = sym (or_none (has s u))
has_fold (x ∷ xs) s u formed all le =
    let is : IsMember x = all 0 0 (omega arith) in
    has_fold xs (with_thread s x) u (formed_more s x formed is) (rest_of x xs all) le
    ∙ ap (λ b. b || names xs u) (has_more s x u formed is le) ∙ or_steps (has s u) (eqb u x) (names xs u)

pub sets_so : SetsSo
sets_so threads t all le = has_fold threads Nobody t tt all le

-- who stands alone isn't one of two
apart : (t one other : ℕ) → one ≢ other → true ≡ eqb one t → true ≡ eqb other t → ⊥
apart t one other differ a b = differ (eqb-true one t (sym a) ∙ sym (eqb-true other t (sym b)))

same_words : (ws vs : List ℕ) → IsSeveral ws → IsSeveral vs
    → ((u : ℕ) → 1 ≤ u → has (Several ws) u ≡ has (Several vs) u) → ws ≡ vs
same_words ws vs f g same = ext_get_or 0 ws vs (f.long ∙ sym g.long)
    (λ i l. same_from_bits_below 64 (get_or ws i 0) (get_or vs i 0) (f.small i) (g.small i)
    (λ k below. same_bit _ _ (bit_at-lt _ _) (bit_at-lt _ _) (at i k below))) where
      at : (i k : ℕ) → k < 64 → eqb (bit_at (get_or ws i 0) k) 1 ≡ eqb (bit_at (get_or vs i 0) k) 1
      at i k below =
          let word : (i * 64 + k + 1 - 1) / 64 ≡ i = omega (arith, below) in
          let bit : (i * 64 + k + 1 - 1) % 64 ≡ k = omega (arith, below) in
          (λ j. eqb (bit_at (get_or ws (sym word j) 0) (sym bit j)) 1) ∙ same (i * 64 + k + 1) (omega arith)
          ∙ (λ j. eqb (bit_at (get_or vs (word j) 0) (bit j)) 1)

same_form : (s s' : ThreadSet) → IsFormed s → IsFormed s' → ((u : ℕ) → 1 ≤ u → has s u ≡ has s' u) → s ≡ s'
same_form Nobody Nobody f g same = refl
same_form Nobody (Single t) f g same = absurd (let e : false ≡ eqb t t = same t g.0 in both_ways (eqb t t) (sym e) (eq-eqb t t refl))
same_form Nobody (Several ws) f g same =
    absurd (both_ways (has (Several ws) g.one) (sym (same g.one g.one_some)) g.has_one)
same_form (Single t) Nobody f g same = absurd (both_ways (eqb t t) (same t f.0) (eq-eqb t t refl))
same_form (Single t) (Single u) f g same = ap Single (eqb-true t u (sym (same t f.0) ∙ eq-eqb t t refl))
same_form (Single t) (Several ws) f g same = absurd (apart t g.one g.other g.differ
    (sym g.has_one ∙ sym (same g.one g.one_some)) (sym g.has_other ∙ sym (same g.other g.other_some)))
same_form (Several ws) Nobody f g same = absurd (both_ways (has (Several ws) f.one) (same f.one f.one_some) f.has_one)
same_form (Several ws) (Single t) f g same = absurd (apart t f.one f.other f.differ
    (sym f.has_one ∙ same f.one f.one_some) (sym f.has_other ∙ same f.other f.other_some))
same_form (Several ws) (Several vs) f g same = ap Several (same_words ws vs f g same)

pub one_form : OneForm
one_form xs ys all all' same = same_form (set_of xs) (set_of ys) (formed_fold xs Nobody tt all) (formed_fold ys Nobody tt all')
    (λ u le. sets_so xs u all le ∙ same u ∙ sym (sets_so ys u all' le))

-- who stands alone in the set of a list can stand in a set
pub member_of : (xs : List ℕ) → All IsMember xs → HasMember (set_of xs)
member_of xs all = at (set_of xs) (formed_fold xs Nobody tt all) where
  at : (s : ThreadSet) → IsFormed s → HasMember s
  at Nobody formed = tt
  at (Single t) formed = formed
  at (Several words) formed = tt

-- the machine's threads can stand in sets
pub threads_members : (xs : List ℕ) → All IsThread xs → All IsMember xs
threads_members xs all i d l = ((all i d l).0, omega (arith, (all i d l).1))
