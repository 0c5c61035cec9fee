-- The least thread of a set from a number on.
use Rattle.std.proofs.Common.{◌≡◌, ◌≢◌, ℕ, ◌+◌, ◌-◌, ◌*◌, ◌/◌, ◌%◌, ◌^◌, ◌<◌, ◌≤◌, true, false, eqb, Some, None, List}
use Rattle.std.proofs.Common.{length, get_or, take, refl, ap, sym, ◌∙◌, arith, inl, inr, subst, Option}
use Rattle.std.proofs.Math.Nat.{mod-lt, mod-add-div, mul_comm, div-le_self}
use Rattle.std.proofs.Math.ListN.{get_or-eq_default}
use Rattle.std.proofs.lemmas.Bool.{cases_lt, eq-eqb, ne_eqb, both_ways}
use Rattle.std.proofs.lemmas.List.{get_or-take, length-take}
use Rattle.std.proofs.lemmas.Nat.{pow_pos}
use Rattle.std.specs.Int.{bit_at, trailing_zeros, w64}
use Rattle.std.proofs.lemmas.Nat.Bits.{bit_at-zero, bit_at_above, bit_at_cat_high, bit_at-trailing_zeros}
use Rattle.machine.specs.declared.thread_set.ThreadSet.TheVariants.{Single, Several}
use Rattle.machine.specs.ThreadSets.{has, has_bit, HasNoneInFirst, IsLeastFrom}

-- the bits of a number without its lowest ones
shifted : (n low j : ℕ) → bit_at n (low + j) ≡ bit_at (n / 2 ^ low) j
shifted n low j =
    let a : ℕ = n / 2 ^ low in
    let b : ℕ = n % 2 ^ low in
    let whole : a * 2 ^ low + b ≡ n =
    let m = mul_comm a (2 ^ low) in
    let d : b + 2 ^ low * a ≡ n = mod-add-div n (2 ^ low) in
    omega (arith, m, d) in
    let small : b < 2 ^ low = mod-lt n (pow_pos low) in
    let left : low + j - low ≡ j = omega arith in
    ap (λ m. bit_at m (low + j)) (sym whole) ∙ bit_at_cat_high a low b (low + j) small (omega arith) ∙ ap (bit_at a) left

-- the bits of a number from a place on
pub none_from : (n low : ℕ) → n / 2 ^ low ≡ 0 → IsLeastFrom (λ i. eqb (bit_at n i) 1) low None
none_from n low none i le =
    let there : low + (i - low) ≡ i = omega (arith, le) in
    ap (λ k. eqb (bit_at n k) 1) (sym there)
    ∙ ap (λ b. eqb b 1) (shifted n low (i - low) ∙ ap (λ m. bit_at m (i - low)) none ∙ bit_at-zero (i - low))

pub some_from : (n low : ℕ) → n < 18446744073709551616 → n / 2 ^ low ≢ 0
    → IsLeastFrom (λ i. eqb (bit_at n i) 1) low (Some (low + trailing_zeros w64 (n / 2 ^ low)))
some_from n low small some =
    let m : ℕ = n / 2 ^ low in
    let le : m ≤ n = div-le_self n (2 ^ low) in
    let least = bit_at-trailing_zeros w64 m (omega (arith, some)) (omega (arith, le, small)) in (
      omega arith,
      ap (λ b. eqb b 1) (shifted n low (trailing_zeros w64 m) ∙ least.1),
      λ i from below.
          let there : low + (i - low) ≡ i = omega (arith, from) in
          ap (λ k. eqb (bit_at n k) 1) (sym there)
          ∙ ap (λ b. eqb b 1) (shifted n low (i - low) ∙ least.2 (i - low) (omega (arith, from, below))),
    )

-- of one thread
pub single_from : (u t : ℕ) → t ≤ u → IsLeastFrom (has (Single u)) t (Some u)
single_from u t le = (le, eq-eqb u u refl, λ v from below. ne_eqb v u (λ e. omega (arith, e, below)))

pub single_past : (u t : ℕ) → u < t → IsLeastFrom (has (Single u)) t None
single_past u t less v le = ne_eqb v u (λ e. omega (arith, e, less, le))

-- how far words were searched: none from t on, up to the bit `low` of the word at a place
pub record IsPassed (words : List ℕ) (t place low : ℕ) : Type 0 where
  pub inside : low < 64
  pub from : t ≤ 64 * place + low + 1
  pub none : (v : ℕ) → t ≤ v → v < 64 * place + low + 1 → has (Several words) v ≡ false

pub starts : (words : List ℕ) (t : ℕ) → 1 ≤ t → IsPassed words t ((t - 1) / 64) ((t - 1) % 64)
starts words t some = record {
  inside = omega arith;
  from = omega (arith, some);
  none = λ v le less. absurd (omega (arith, some, le, less));
}

-- a number of the word at a place
at_place : (words : List ℕ) (place v : ℕ) → (v - 1) / 64 ≡ place
    → has (Several words) v ≡ eqb (bit_at (get_or words place 0) ((v - 1) % 64)) 1
at_place words place v e = ap (λ a. eqb (bit_at (get_or words a 0) ((v - 1) % 64)) 1) e

pub found : (words : List ℕ) (t place low k : ℕ) → IsPassed words t place low → k < 64
    → IsLeastFrom (λ i. eqb (bit_at (get_or words place 0) i) 1) low (Some k)
    → IsLeastFrom (has (Several words)) t (Some (64 * place + k + 1))
found words t place low k passed small least =
    let from : t ≤ 64 * place + low + 1 = passed.from in
    let above : low ≤ k = least.0 in
    let word : (64 * place + k + 1 - 1) / 64 ≡ place = omega (arith, small) in
    let bit : (64 * place + k + 1 - 1) % 64 ≡ k = omega (arith, small) in (
      omega (arith, from, above),
      at_place words place (64 * place + k + 1) word ∙ ap (λ i. eqb (bit_at (get_or words place 0) i) 1) bit ∙ least.1,
      λ v le less. elim (cases_lt v (64 * place + low + 1)) [
        | inl before ↦ passed.none v le before
        | inr past ↦
            at_place words place v (omega (arith, past, less, small))
            ∙ least.2 ((v - 1) % 64) (omega (arith, past, less, small)) (omega (arith, past, less, small))
      ],
    )

pub goes_on : (words : List ℕ) (t place low : ℕ) → IsPassed words t place low
    → IsLeastFrom (λ i. eqb (bit_at (get_or words place 0) i) 1) low None → IsPassed words t (place + 1) 0
goes_on words t place low passed least =
    let from : t ≤ 64 * place + low + 1 = passed.from in
    let inside : low < 64 = passed.inside in
    record {
      inside = omega arith;
      from = omega (arith, from, inside);
      none = λ v le less. elim (cases_lt v (64 * place + low + 1)) [
        | inl before ↦ passed.none v le before
        | inr past ↦
            at_place words place v (omega (arith, past, less, inside))
            ∙ least ((v - 1) % 64) (omega (arith, past, less, inside))
      ];
    }

pub none_left : (words : List ℕ) (t place low : ℕ) → length words ≤ place → IsPassed words t place low
    → IsLeastFrom (has (Several words)) t None
none_left words t place low past passed v le = elim (cases_lt v (64 * place + low + 1)) [
  | inl before ↦ passed.none v le before
  | inr behind ↦
      let far : length words ≤ (v - 1) / 64 = omega (arith, past, behind) in
      ap (λ n. eqb (bit_at n ((v - 1) % 64)) 1) (get_or-eq_default words 0 far)
      ∙ ap (λ n. eqb n 1) (bit_at-zero ((v - 1) % 64))
]

-- a bit of a word of 64 bits
pub inside_word : (n k : ℕ) → n < 18446744073709551616 → eqb (bit_at n k) 1 ≡ true → k < 64
inside_word n k small is = elim (cases_lt k 64) [
  | inl l ↦ l
  | inr past ↦ absurd (both_ways (eqb (bit_at n k) 1) (ap (λ b. eqb b 1) (bit_at_above n 64 k small past)) is)
]

pub some_inside : (n low : ℕ) → n < 18446744073709551616 → n / 2 ^ low ≢ 0
    → low + trailing_zeros w64 (n / 2 ^ low) < 64
some_inside n low small some = inside_word n (low + trailing_zeros w64 (n / 2 ^ low)) small (some_from n low small some).1

-- the first words of a set tell as much as all, where none is past them
pub within : (words : List ℕ) (t last n : ℕ) (o : Option ℕ) → 1 ≤ t → last ≤ 64 * n
    → ((u : ℕ) → last < u → has_bit words u ≡ false)
    → IsLeastFrom (has_bit (take n words)) t o → IsLeastFrom (has_bit words) t o
within words t last n o some far none least = whole o least
  where
    same : (u : ℕ) → 1 ≤ u → has_bit words u ≡ has_bit (take n words) u
    same u le = elim (cases_lt ((u - 1) / 64) n) [
      | inl there ↦ ap (λ w. eqb (bit_at w ((u - 1) % 64)) 1) (sym (get_or-take n words ((u - 1) / 64) 0 there))
      | inr behind ↦
          let short : length (take n words) ≤ n = omega (arith, length-take n words) in
          none u (omega (arith, behind, far, le))
          ∙ sym (ap (λ w. eqb (bit_at w ((u - 1) % 64)) 1)
          (get_or-eq_default (take n words) 0 (omega (arith, short, behind)))
          ∙ ap (λ w. eqb w 1) (bit_at-zero ((u - 1) % 64)))
    ]

    whole : (r : Option ℕ) → IsLeastFrom (has_bit (take n words)) t r → IsLeastFrom (has_bit words) t r
    whole None h = λ u le. same u (omega (arith, some, le)) ∙ h u le
    whole (Some k) h = (h.0, same k (omega (arith, some, h.0)) ∙ h.1, λ v le less. same v (omega (arith, some, le)) ∙ h.2 v le less)

-- from the first word on
first : (words : List ℕ) (t : ℕ) → t < 64 → IsPassed words (t + 1) 0 t
first words t few = record {
  inside = few;
  from = omega arith;
  none = λ v le less. absurd (omega (arith, le, less));
}

-- by the first word
pub first_found : (words : List ℕ) (t k : ℕ) → t < 64 → k < 64
    → IsLeastFrom (λ i. eqb (bit_at (get_or words 0 0) i) 1) t (Some k) → IsLeastFrom (has_bit words) (t + 1) (Some (k + 1))
first_found words t k few small least =
    let e : 64 * 0 + k + 1 ≡ k + 1 = omega arith in
    subst (λ n. IsLeastFrom (has_bit words) (t + 1) (Some n)) e (found words (t + 1) 0 t k (first words t few) small least)

pub first_none : (words : List ℕ) (t : ℕ) → t < 64 → IsLeastFrom (λ i. eqb (bit_at (get_or words 0 0) i) 1) t None
    → HasNoneInFirst words t
first_none words t few least u behind inside =
    (goes_on words (t + 1) 0 t (first words t few) least).none u (omega (arith, behind)) (omega (arith, inside))

pub first_past : (words : List ℕ) (t : ℕ) → 64 ≤ t → HasNoneInFirst words t
first_past words t far u behind inside = absurd (omega (arith, far, behind, inside))

-- where the first word has none behind a thread, and the others have none
pub rest_few : (words : List ℕ) (t last : ℕ) → last ≤ 64 → HasNoneInFirst words t
    → ((u : ℕ) → last < u → has_bit words u ≡ false) → IsLeastFrom (has_bit words) (t + 1) None
rest_few words t last few none past u le = elim (cases_lt u 65) [
  | inl before ↦ none u (omega (arith, le)) (omega (arith, before))
  | inr behind ↦ past u (omega (arith, few, behind))
]

pub rest_past : (words : List ℕ) (t last : ℕ) → last ≤ t → ((u : ℕ) → last < u → has_bit words u ≡ false)
    → IsLeastFrom (has_bit words) (t + 1) None
rest_past words t last far past u le = past u (omega (arith, far, le))
