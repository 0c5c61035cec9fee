-- Texts of digits, and the numbers that they write.
use Rattle.std.proofs.Common.{◌≡◌, ◌<◌, ◌≤◌, ◌+◌, ◌-◌, ◌*◌, ◌/◌, ◌%◌, ◌^◌, ℕ, List, [], ◌∷◌, ◌++◌, length, get_or, drop}
use Rattle.std.proofs.Common.{refl, ap, sym, ◌∙◌, subst, arith, inl, inr}
use Rattle.std.specs.Fmt.{decimal}
use Rattle.std.proofs.lemmas.Bool.{cases_lt}
use Rattle.std.proofs.lemmas.List.{append_assoc}
use Rattle.std.proofs.lemmas.Fmt.{decimal_by_steps, decimal_digit, decimal_injective, decimal_nonempty, decimal_step, first_decimal}
use Rattle.log_text.specs.Cuts.{IsDigit, NoDigit}

abbrev Digits : List ℕ → Type 0
Digits [] = Unit {0}
Digits (x ∷ xs) = IsDigit x × Digits xs

digits_append : (xs ys : List ℕ) → Digits xs → Digits ys → Digits (xs ++ ys)
digits_append [] ys p q = q
digits_append (x ∷ xs) ys p q = (p.0, digits_append xs ys p.1 q)

one_digit : (n : ℕ) → n < 10 → Digits ((48 + n) ∷ [])
one_digit n less = ((omega arith, omega (arith, less)), tt)

digit_more : (n : ℕ) (ds : List ℕ) → 10 ≤ n → Digits ds → Digits (ds ++ ((48 + n % 10) ∷ []))
digit_more n ds big is = digits_append ds ((48 + n % 10) ∷ []) is ((omega arith, omega arith), tt)

all_digits : (n : ℕ) → n < 2 ^ 64 → Digits (decimal n)
all_digits n small = decimal_by_steps (λ n ds. Digits ds) one_digit digit_more n small

digits_once : (xs ys r s : List ℕ) → Digits xs → Digits ys → NoDigit r → NoDigit s → xs ++ r ≡ ys ++ s
    → (xs ≡ ys) × (r ≡ s)
digits_once [] [] r s d d' non non' e = (refl, e)
digits_once [] (y ∷ ys) r s d d' non non' e = let f : IsDigit y → ⊥ = subst NoDigit e non in absurd (f d'.0)
digits_once (x ∷ xs) [] r s d d' non non' e = let f : IsDigit x → ⊥ = subst NoDigit (sym e) non' in absurd (f d.0)
digits_once (x ∷ xs) (y ∷ ys) r s d d' non non' e =
    let head : x ≡ y = ap (λ l. get_or l 0 0) e in
    let rest = digits_once xs ys r s d.1 d'.1 non non' (ap (drop 1) e) in
    ((λ i. head i ∷ rest.0 i), rest.1)

-- digits go on where no digit follows the others
digits_front : (xs ys r s : List ℕ) → Digits xs → NoDigit s → xs ++ r ≡ ys ++ s → (ds : List ℕ) × (ys ≡ xs ++ ds)
digits_front [] ys r s d non e = (ys, refl)
digits_front (x ∷ xs) [] r s d non e = let f : IsDigit x → ⊥ = subst NoDigit (sym e) non in absurd (f d.0)
digits_front (x ∷ xs) (y ∷ ys) r s d non e =
    let head : y ≡ x = sym (ap (λ l. get_or l 0 0) e) in
    let rest = digits_front xs ys r s d.1 non (ap (drop 1) e) in
    (rest.0, (λ i. head i ∷ rest.1 i))

-- the number that digits write, behind those of a number
abbrev value : ℕ → List ℕ → ℕ
value n [] = n
value n (d ∷ ds) = value (n * 10 + (d - 48)) ds

value_append : (n : ℕ) (xs ys : List ℕ) → value n (xs ++ ys) ≡ value (value n xs) ys
value_append n [] ys = refl
value_append n (x ∷ xs) ys = value_append (n * 10 + (x - 48)) xs ys

value_grows : (n : ℕ) (ds : List ℕ) → n ≤ value n ds
value_grows n [] = omega arith
value_grows n (d ∷ ds) =
    let more : n * 10 + (d - 48) ≤ value (n * 10 + (d - 48)) ds = value_grows (n * 10 + (d - 48)) ds in
    omega (arith, more)

value_one : (n : ℕ) → n < 10 → value 0 ((48 + n) ∷ []) ≡ n
value_one n small = omega arith

value_more : (n : ℕ) (ds : List ℕ) → 10 ≤ n → value 0 ds ≡ n / 10 → value 0 (ds ++ ((48 + n % 10) ∷ [])) ≡ n
value_more n ds big is =
    let last : (value 0 ds) * 10 + ((48 + n % 10) - 48) ≡ n = omega (arith, is) in
    value_append 0 ds ((48 + n % 10) ∷ []) ∙ last

value_decimal : (n : ℕ) → n < 2 ^ 64 → value 0 (decimal n) ≡ n
value_decimal n small = decimal_by_steps (λ n ds. value 0 ds ≡ n) value_one value_more n small

-- a number is written in one way
pub number_once : (m n : ℕ) (r s : List ℕ) → m < 2 ^ 32 → n < 2 ^ 32 → NoDigit r → NoDigit s
    → decimal m ++ r ≡ decimal n ++ s → (m ≡ n) × (r ≡ s)
number_once m n r s small small' non non' e =
    let both = digits_once (decimal m) (decimal n) r s (all_digits m (omega (arith, small)))
    (all_digits n (omega (arith, small'))) non non' e in
    (decimal_injective m n (omega (arith, small)) (omega (arith, small')) both.0, both.1)

some_digit : (ds s : List ℕ) → 0 < length ds → Digits ds → NoDigit (ds ++ s) → ⊥
some_digit [] s some d non = absurd (omega (arith, some))
some_digit (x ∷ ds) s some d non = non d.0

-- and begins by a digit
pub digit_there : (n : ℕ) (text s : List ℕ) → n < 2 ^ 32 → NoDigit text → text ≡ decimal n ++ s → ⊥
digit_there n text s small non is =
    some_digit (decimal n) s (decimal_nonempty n (omega (arith, small))) (all_digits n (omega (arith, small)))
    (subst NoDigit is non)

pub digit_first : (d : ℕ) (text after : List ℕ) → IsDigit d → text ≡ d ∷ after → text ≡ decimal (d - 48) ++ after
digit_first d text after digit is =
    let low = digit.0 in
    let high = digit.1 in
    let one = decimal_digit (d - 48) (omega (arith, high)) in
    let same : d ≡ 48 + (d - 48) = omega (arith, low) in
    let whole : d ∷ after ≡ (48 + (d - 48)) ∷ after = ap (λ (b : ℕ). b ∷ after) same in
    is ∙ whole ∙ ap (λ (z : List ℕ). z ++ after) (sym one)

-- a digit more
pub grown : (v d : ℕ) (text rest after : List ℕ) → (v ≡ 0 → ⊥) → v < 2 ^ 32 → IsDigit d → text ≡ decimal v ++ rest
    → rest ≡ d ∷ after → text ≡ decimal (v * 10 + (d - 48)) ++ after
grown v d text rest after some small digit is more =
    let low = digit.0 in
    let high = digit.1 in
    let step = decimal_step (v * 10 + (d - 48)) (omega (arith, some, low, high)) (omega (arith, small, high)) in
    let front : (v * 10 + (d - 48)) / 10 ≡ v = omega (arith, low, high) in
    let last : 48 + (v * 10 + (d - 48)) % 10 ≡ d = omega (arith, low, high) in
    let all : decimal (v * 10 + (d - 48)) ≡ decimal v ++ (d ∷ []) = step ∙ (λ i. decimal (front i) ++ (last i ∷ [])) in
    is ∙ ap (λ (r : List ℕ). decimal v ++ r) more ∙ sym (append_assoc (decimal v) (d ∷ []) after)
    ∙ ap (λ (z : List ℕ). z ++ after) (sym all)

-- no digit follows the zero in front
pub zero_first : (v d n : ℕ) (text rest after s : List ℕ) → v ≡ 0 → IsDigit d → text ≡ decimal v ++ rest
    → rest ≡ d ∷ after → n < 2 ^ 32 → NoDigit s → text ≡ decimal n ++ s → ⊥
zero_first v d n text rest after s none digit is more small non is' =
    let zero_is : decimal 0 ≡ 48 ∷ [] = decimal_digit 0 (omega arith) in
    let whole : 48 ∷ (d ∷ after) ≡ decimal n ++ s =
    ap (λ (z : List ℕ). z ++ (d ∷ after)) (sym zero_is) ∙ ap (λ (k : ℕ). decimal k ++ (d ∷ after)) (sym none)
    ∙ ap (λ (r : List ℕ). decimal v ++ r) (sym more) ∙ sym is ∙ is' in
    let front = digits_front (48 ∷ (d ∷ [])) (decimal n) after s ((omega arith, omega arith), (digit, tt)) non whole in
    elim (cases_lt 0 n) [
      | inl some ↦
          let first = first_decimal n some (omega (arith, small)) in
          let is_zero : get_or (decimal n) 0 0 ≡ 48 = ap (λ l. get_or l 0 0) front.1 in
          absurd (omega (arith, first, is_zero))
      | inr least ↦
          let same : 0 ≡ n = omega (arith, least) in
          let l : 1 ≡ length (d ∷ (d ∷ front.0)) =
          ap length (sym zero_is ∙ ap decimal same ∙ front.1) in
          absurd (omega (arith, l))
    ]

-- and no digit with which the number has more than 32 bits
pub too_big : (v d n : ℕ) (text rest after s : List ℕ) → v < 2 ^ 32 → IsDigit d → 2 ^ 32 ≤ v * 10 + (d - 48)
    → text ≡ decimal v ++ rest → rest ≡ d ∷ after → n < 2 ^ 32 → NoDigit s → text ≡ decimal n ++ s → ⊥
too_big v d n text rest after s small digit big is more small' non is' =
    let all : Digits (decimal v ++ (d ∷ [])) =
    digits_append (decimal v) (d ∷ []) (all_digits v (omega (arith, small))) (digit, tt) in
    let whole : (decimal v ++ (d ∷ [])) ++ after ≡ decimal n ++ s =
    append_assoc (decimal v) (d ∷ []) after ∙ ap (λ (r : List ℕ). decimal v ++ r) (sym more) ∙ sym is ∙ is' in
    let front = digits_front (decimal v ++ (d ∷ [])) (decimal n) after s all non whole in
    let own : value 0 (decimal n) ≡ n = value_decimal n (omega (arith, small')) in
    let before : value 0 (decimal v) ≡ v = value_decimal v (omega (arith, small)) in
    let sum : value 0 (decimal n) ≡ value (value 0 (decimal v) * 10 + (d - 48)) front.0 =
    ap (value 0) front.1 ∙ value_append 0 (decimal v ++ (d ∷ [])) front.0
    ∙ ap (λ (x : ℕ). value x front.0) (value_append 0 (decimal v) (d ∷ [])) in
    let grows : value 0 (decimal v) * 10 + (d - 48) ≤ value (value 0 (decimal v) * 10 + (d - 48)) front.0 =
    value_grows (value 0 (decimal v) * 10 + (d - 48)) front.0 in
    absurd (omega (arith, own, before, sum, grows, big, small'))

pub digit_shorter : (rest after : List ℕ) (d : ℕ) → rest ≡ d ∷ after → length after < length rest
digit_shorter rest after d is = let l : length rest ≡ length (d ∷ after) = ap length is in omega (arith, l)
