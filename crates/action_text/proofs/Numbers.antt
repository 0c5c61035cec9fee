-- Numbers that are read behind a word, one by one.
use Rattle.std.proofs.Common.{◌≡◌, ◌∙◌, ◌<◌, ◌≤◌, ℕ, List, [], ◌∷◌, ◌++◌, ap, arith, drop, length, length-append, refl, subst, sym}
use Rattle.std.specs.List.{All}
use Rattle.std.specs.Fmt.{decimal}
use Rattle.std.proofs.lemmas.List.{append-nil, append_assoc}
use Rattle.std.proofs.lemmas.List.Elements.{All-append, All-cons, All-head, All-nil, All-tail}
use Rattle.std.proofs.Common.{ℤ}
use Rattle.std.proofs.Math.Facts.{Fits-of_z}
use Rattle.std.specs.Int.{w32}
use Rattle.std.specs.Prelude.{FitsSigned}
use Rattle.words.specs.Signed.{word_of}
use Rattle.std.proofs.lemmas.Fmt.{decimal_injective}
use Rattle.std.proofs.Common.{◌≢◌, Option, Some, None, MatchOption}
use Rattle.words.specs.Outcomes.{fault_number}
use Rattle.words.specs.declared.outcome.Fault.{Fault}
use Rattle.words.specs.declared.outcome.Fault.TheVariants.{ResultOutOfRange, DivisionByZero, IndexOutOfRange, HandleNotJoinable}
use Rattle.words.specs.declared.outcome.Fault.TheVariants.{ProcessTableFull, AbortStatement, AbandonedMonitor, JoinedAborted}
use Rattle.log_text.specs.Cuts.{NoDigit, NoNumber}
use Rattle.log_text.proofs.Digits.{digit_there}
use Rattle.action_text.specs.ActionText.{numbers_text}
use Rattle.action_text.specs.Sized.{IsNumber}

-- what stands behind the same front is the same
pub cancel : (w a b : List ℕ) → w ++ a ≡ w ++ b → a ≡ b
cancel [] a b e = e
cancel (x ∷ w) a b e = cancel w a b (ap (drop 1) e)

-- of the numbers behind which this stands, these were seen, and more are left
pub record Behind (seen left ns rest : List ℕ) : Type 0 where
  pub more : List ℕ
  pub small : All IsNumber more
  pub all : ns ≡ seen ++ more
  pub is : left ≡ numbers_text more ++ rest

pub no_digit_behind : (ms rest : List ℕ) → NoNumber rest → NoDigit (numbers_text ms ++ rest)
no_digit_behind [] [] none = tt
no_digit_behind [] (x ∷ xs) none = none.0
no_digit_behind (m ∷ ms) rest none = λ d. let low = d.0 in absurd (omega (arith, low))

-- one more is there
next : (m : ℕ) (ms rest left : List ℕ) → left ≡ numbers_text (m ∷ ms) ++ rest
    → left ≡ 32 ∷ (decimal m ++ (numbers_text ms ++ rest))
next m ms rest left is = is ∙ ap (λ (z : List ℕ). 32 ∷ z) (append_assoc (decimal m) (numbers_text ms) rest)

more_by : (seen left after ns rest : List ℕ) (n : ℕ) → IsNumber n → NoNumber rest
    → left ≡ 32 ∷ (decimal n ++ after)
    → ((m : ℕ) (r : List ℕ) → IsNumber m → NoDigit r → left ≡ 32 ∷ (decimal m ++ r) → (n ≡ m) × (after ≡ r))
    → (more : List ℕ) → All IsNumber more → ns ≡ seen ++ more → left ≡ numbers_text more ++ rest
    → Behind (seen ++ n ∷ []) after ns rest
more_by seen left after ns rest n small none there reads [] few all is =
    let here : NoNumber (32 ∷ (decimal n ++ after)) = subst NoNumber (sym is ∙ there) none in
    absurd (digit_there n (decimal n ++ after) after small (here.1 refl) refl)
more_by seen left after ns rest n small none there reads (m ∷ ms) few all is =
    let both = reads m (numbers_text ms ++ rest) (All-head IsNumber m ms few) (no_digit_behind ms rest none)
    (next m ms rest left is) in
    record {
      more = ms;
      small = All-tail IsNumber m ms few;
      all = all ∙ ap (λ (k : ℕ). seen ++ (k ∷ ms)) (sym both.0) ∙ sym (append_assoc seen (n ∷ []) ms);
      is = both.1;
    }

pub seen_more : (seen left after ns rest : List ℕ) (n : ℕ) → IsNumber n → NoNumber rest
    → left ≡ 32 ∷ (decimal n ++ after)
    → ((m : ℕ) (r : List ℕ) → IsNumber m → NoDigit r → left ≡ 32 ∷ (decimal m ++ r) → (n ≡ m) × (after ≡ r))
    → Behind seen left ns rest → Behind (seen ++ n ∷ []) after ns rest
seen_more seen left after ns rest n small none there reads b =
    more_by seen left after ns rest n small none there reads b.more b.small b.all b.is

-- or none is
all_by : (seen left ns rest : List ℕ) → NoNumber rest
    → ((m : ℕ) (r : List ℕ) → IsNumber m → NoDigit r → left ≡ 32 ∷ (decimal m ++ r) → ⊥)
    → (more : List ℕ) → All IsNumber more → ns ≡ seen ++ more → left ≡ numbers_text more ++ rest
    → (seen ≡ ns) × (left ≡ rest)
all_by seen left ns rest none never [] few all is = (sym (all ∙ append-nil seen), is)
all_by seen left ns rest none never (m ∷ ms) few all is =
    absurd (never m (numbers_text ms ++ rest) (All-head IsNumber m ms few) (no_digit_behind ms rest none)
    (next m ms rest left is))

pub seen_all : (seen left ns rest : List ℕ) → NoNumber rest
    → ((m : ℕ) (r : List ℕ) → IsNumber m → NoDigit r → left ≡ 32 ∷ (decimal m ++ r) → ⊥)
    → Behind seen left ns rest → (seen ≡ ns) × (left ≡ rest)
seen_all seen left ns rest none never b = all_by seen left ns rest none never b.more b.small b.all b.is

pub seen_none : (text ns rest : List ℕ) → All IsNumber ns → text ≡ numbers_text ns ++ rest → Behind [] text ns rest
seen_none text ns rest small is = record { more = ns; small = small; all = refl; is = is }

pub small_more : (seen : List ℕ) (n : ℕ) → All IsNumber seen → IsNumber n → All IsNumber (seen ++ n ∷ [])
small_more seen n all small = All-append IsNumber seen (n ∷ []) all (All-cons IsNumber n [] small (All-nil IsNumber))

numbers_append : (xs ys : List ℕ) → numbers_text (xs ++ ys) ≡ numbers_text xs ++ numbers_text ys
numbers_append [] ys = refl
numbers_append (x ∷ xs) ys =
    ap (λ (z : List ℕ). 32 ∷ (decimal x ++ z)) (numbers_append xs ys)
    ∙ ap (λ (z : List ℕ). 32 ∷ z) (sym (append_assoc (decimal x) (numbers_text xs) (numbers_text ys)))

pub whole_more : (text seen left after : List ℕ) (n : ℕ) → text ≡ numbers_text seen ++ left
    → left ≡ 32 ∷ (decimal n ++ after) → text ≡ numbers_text (seen ++ n ∷ []) ++ after
whole_more text seen left after n whole there =
    whole ∙ ap (λ (z : List ℕ). numbers_text seen ++ z) there
    ∙ ap (λ (z : List ℕ). numbers_text seen ++ (32 ∷ (z ++ after))) (sym (append-nil (decimal n)))
    ∙ sym (append_assoc (numbers_text seen) (numbers_text (n ∷ [])) after)
    ∙ ap (λ (z : List ℕ). z ++ after) (sym (numbers_append seen (n ∷ [])))

pub shorter : (n : ℕ) (left after : List ℕ) → left ≡ 32 ∷ (decimal n ++ after) → length after < length left
shorter n left after there =
    let l : length left ≡ length (32 ∷ (decimal n ++ after)) = ap length there in
    let sum = length-append (decimal n) after in
    omega (arith, l, sum)

few_faults : (f : Fault) → fault_number f ≤ 8
few_faults ResultOutOfRange = omega arith
few_faults DivisionByZero = omega arith
few_faults IndexOutOfRange = omega arith
few_faults HandleNotJoinable = omega arith
few_faults ProcessTableFull = omega arith
few_faults AbortStatement = omega arith
few_faults AbandonedMonitor = omega arith
few_faults JoinedAborted = omega arith

-- the fault of a number behind a word
pub fault_there : (text word : List ℕ) (value : ℕ) (r : Option Fault) → IsNumber value → text ≡ word ++ decimal value
    → MatchOption r ((f : Fault) → value ≢ fault_number f) (λ f. value ≡ fault_number f)
    → MatchOption r ((f : Fault) → text ≢ word ++ decimal (fault_number f)) (λ f. text ≡ word ++ decimal (fault_number f))
fault_there text word value None small is none = λ f same.
    let few = few_faults f in
    none f
    (decimal_injective value (fault_number f) (omega (arith, small)) (omega (arith, few))
    (cancel word (decimal value) (decimal (fault_number f)) (sym is ∙ same)))
fault_there text word value (Some f) small is h = is ∙ ap (λ (k : ℕ). word ++ decimal k) h

pub small_word : (z : ℤ) → FitsSigned w32 z → IsNumber (word_of z)
small_word z f = (Fits-of_z f).fits
