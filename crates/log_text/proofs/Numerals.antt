-- The digits of numbers.
use Rattle.std.proofs.Common.{◌≡◌, ◌<◌, ◌≤◌, ◌+◌, ◌-◌, ◌%◌, ◌^◌, ℕ, Bool, List, [], ◌∷◌, ◌++◌, drop}
use Rattle.std.proofs.Common.{inl, inr, refl, ap, sym, ◌∙◌, arith}
use Rattle.std.proofs.Common.{ℤ, pos, negsuc, suc}
use Rattle.std.specs.Prelude.{FitsSigned}
use Rattle.std.specs.Fmt.{decimal, signed_decimal}
use Rattle.std.proofs.lemmas.Bool.{cases_lt, le-ltb}
use Rattle.std.proofs.lemmas.Fmt.{decimal_by_steps}
use Rattle.std.proofs.lemmas.Int.{to_z_pos}
use Rattle.std.proofs.Math.Facts.{sfits_to_z}
use Rattle.std.specs.Int.{w32}
use Rattle.std.specs.Int.Signed.{mag}
use Rattle.words.specs.Signed.{signed_of}
use Rattle.machine.specs.declared.event.EventName.{EventName}
use Rattle.machine.specs.declared.event.EventName.TheVariants.{Print}
use mir.Val.{sel}
use Rattle.log_text.specs.Cuts.{NoDigit}
use Rattle.log_text.specs.LogLines.{value_text}
use Rattle.log_text.proofs.Cutting.{Plain, plain_append}
use Rattle.log_text.proofs.Digits.{digit_there, number_once}

plain_one : (n : ℕ) → n < 10 → Plain ((48 + n) ∷ [])
plain_one n less = (omega arith, tt)

plain_more : (n : ℕ) (ds : List ℕ) → 10 ≤ n → Plain ds → Plain (ds ++ ((48 + n % 10) ∷ []))
plain_more n ds big is = plain_append ds ((48 + n % 10) ∷ []) is (omega arith, tt)

pub plain_decimal : (n : ℕ) → n < 2 ^ 64 → Plain (decimal n)
plain_decimal n small = decimal_by_steps (λ n ds. Plain ds) plain_one plain_more n small

signed_fits : (w : ℕ) → w < 2 ^ 32 → FitsSigned w32 (signed_of w)
signed_fits w h = sfits_to_z (record { fits = h })

within : (z : ℤ) → FitsSigned w32 z → mag z < 2 ^ 63
within z fits = let small = fits.sfits in omega (arith, small)

plain_signed : (z : ℤ) → mag z < 2 ^ 63 → Plain (signed_decimal z)
plain_signed (pos n) small = plain_decimal n (omega (arith, small))
plain_signed (negsuc n) small = (omega arith, plain_decimal (suc n) (omega (arith, small)))

pub plain_value : (name : EventName) (v : ℕ) → v < 2 ^ 32 → Plain (value_text name v)
plain_value Print v small = plain_signed (signed_of v) (within (signed_of v) (signed_fits v small))
plain_value _ v small = plain_decimal v (omega (arith, small))

-- a printed word below 2^31 is shown as it is, and one from there on as that less 2^32
pub shown_low : (v : ℕ) → v < 2 ^ 31 → value_text Print v ≡ decimal v
shown_low v low = ap signed_decimal (to_z_pos w32 v low)

pub shown_high : (v : ℕ) → 2 ^ 31 ≤ v → v < 2 ^ 32 → value_text Print v ≡ 45 ∷ decimal (2 ^ 32 - v)
shown_high v high small =
    let negative : signed_of v ≡ negsuc (2 ^ 32 - suc v) =
    ap (λ (b : Bool). sel b (pos v) (negsuc (2 ^ 32 - suc v))) (le-ltb v (2 ^ 31) high) in
    let same : suc (2 ^ 32 - suc v) ≡ 2 ^ 32 - v = omega (arith, small) in
    ap signed_decimal negative ∙ ap (λ (n : ℕ). 45 ∷ decimal n) same

-- a sign is no digit
no_sign : (n : ℕ) (xs r : List ℕ) → n < 2 ^ 32 → 45 ∷ xs ≡ decimal n ++ r → ⊥
no_sign n xs r small is =
    digit_there n (45 ∷ xs) r small (λ d. let low = d.0 in absurd (omega (arith, low))) is

-- what is shown behind a sign
pub past_sign : (v : ℕ) (text digits rest : List ℕ) → v < 2 ^ 32 → text ≡ 45 ∷ digits → text ≡ value_text Print v ++ rest
    → (2 ^ 31 ≤ v) × (digits ≡ decimal (2 ^ 32 - v) ++ rest)
past_sign v text digits rest small sign is = elim (cases_lt v (2 ^ 31)) [
  | inl low ↦
      absurd (no_sign v digits rest small (sym sign ∙ is ∙ ap (λ (z : List ℕ). z ++ rest) (shown_low v low)))
  | inr high ↦ (
    high,
    ap (drop 1) (sym sign ∙ is ∙ ap (λ (z : List ℕ). z ++ rest) (shown_high v high small)),
  )
]

-- and what is shown without one
pub no_sign_there : (v : ℕ) (text rest : List ℕ) → v < 2 ^ 32 → ((xs : List ℕ) → text ≡ 45 ∷ xs → ⊥)
    → text ≡ value_text Print v ++ rest → (v < 2 ^ 31) × (text ≡ decimal v ++ rest)
no_sign_there v text rest small none is = elim (cases_lt v (2 ^ 31)) [
  | inl low ↦ (low, is ∙ ap (λ (z : List ℕ). z ++ rest) (shown_low v low))
  | inr high ↦
      absurd (none (decimal (2 ^ 32 - v) ++ rest) (is ∙ ap (λ (z : List ℕ). z ++ rest) (shown_high v high small)))
]

-- a printed word is shown in one way
shown_once : (v w : ℕ) (r s : List ℕ) → v < 2 ^ 32 → w < 2 ^ 32 → NoDigit r → NoDigit s
    → value_text Print v ++ r ≡ value_text Print w ++ s → (v ≡ w) × (r ≡ s)
shown_once v w r s small small' non non' is = elim (cases_lt v (2 ^ 31)) [
  | inl low ↦
      let text : value_text Print v ++ r ≡ decimal v ++ r = ap (λ (z : List ℕ). z ++ r) (shown_low v low) in
      let other = no_sign_there w (decimal v ++ r) s small' (λ xs e. no_sign v xs r small (sym e)) (sym text ∙ is) in
      number_once v w r s small small' non non' other.1
  | inr high ↦
      let text : value_text Print v ++ r ≡ 45 ∷ (decimal (2 ^ 32 - v) ++ r) =
      ap (λ (z : List ℕ). z ++ r) (shown_high v high small) in
      let other = past_sign w (value_text Print v ++ r) (decimal (2 ^ 32 - v) ++ r) s small' text is in
      let high' = other.0 in
      let both = number_once (2 ^ 32 - v) (2 ^ 32 - w) r s (omega (arith, high)) (omega (arith, high')) non non' other.1 in
      let same = both.0 in
      (omega (arith, same, small, small'), both.1)
]

pub value_once : (name : EventName) (v w : ℕ) (r s : List ℕ) → v < 2 ^ 32 → w < 2 ^ 32 → NoDigit r → NoDigit s
    → value_text name v ++ r ≡ value_text name w ++ s → (v ≡ w) × (r ≡ s)
value_once Print v w r s small small' non non' is = shown_once v w r s small small' non non' is
value_once _ v w r s small small' non non' is = number_once v w r s small small' non non' is

-- a value that isn't printed is shown as it is
pub written_so : (name : EventName) (v : ℕ) → (name ≡ Print → ⊥) → value_text name v ≡ decimal v
written_so Print v other = absurd (other refl)
written_so _ v other = refl
