-- The machine's operators on the words of values do what the source's operators do on the values.
use Rattle.std.proofs.Common.{zero, suc, inl, inr, rules, ◌≡◌, ℕ, ◌+◌, ◌<◌, ◌≤◌, ◌==◌, List, ◌∷◌, ℤ, pos, negsuc, Bool}
use Rattle.std.proofs.Common.{true, false, not, ◌&&◌, ◌||◌, refl, ap, ◌∙◌, sym, subst, arith}
use Rattle.std.specs.Prelude.{FitsSigned, if◌then◌else◌, ◌+ℤ◌, ◌-ℤ◌, ◌*ℤ◌, neg_ℤ, int_lt, int_le, int_div, int_rem}
use Rattle.std.specs.Prelude.{nat_lt, ◌^◌, unsigned_abs}
use Rattle.std.specs.Ordering.{int_eq}
use Rattle.std.specs.Int.{w32}
use Rattle.std.proofs.lemmas.Int.{to_z-of_z, rem_below, fits_signed_from_abs}
use Rattle.std.proofs.lemmas.Bool.Decides.{Decides-int_eq, Decides-eqb}
use Rattle.std.proofs.lemmas.Bool.{eqb-true, ltb-true}
use Rattle.words.specs.declared.outcome.Fault.TheVariants.{DivisionByZero, ResultOutOfRange}
use Rattle.words.specs.declared.version.ImageVersion.{ImageVersion}
use Rattle.words.specs.Signed.{signed_of, word_of}
use Rattle.words.specs.Versions.{most_of}
use Rattle.words.proofs.Versions.{most_few}
use Rattle.words.specs.declared.outcome.Cause.TheVariants.{Faulted}
use Rattle.isa.specs.declared.operator.Operator.TheVariants.{BitAnd, BitOr}
use Rattle.program.specs.declared.kinds.ValueType.{ValueType}
use Rattle.program.specs.declared.kinds.ValueType.TheVariants.{Integer, Boolean, Process}
use Rattle.program.specs.declared.kinds.Operator.{Operator}
use Rattle.program.specs.declared.kinds.Operator.TheVariants.{Add, Subtract, Multiply, Divide, Modulo, Equal, NotEqual}
use Rattle.program.specs.declared.kinds.Operator.TheVariants.{Less, LessEqual, Greater, GreaterEqual, And, Or}
use Rattle.program.specs.declared.kinds.UnaryOperator.{UnaryOperator}
use Rattle.program.specs.declared.kinds.UnaryOperator.TheVariants.{Negate as NegateOf, Not as NotOf}
use Rattle.program.specs.Typing.{Takes, result_type, unary_type}
use Rattle.lowering.specs.Expressions.{operation, unary_code}
use Rattle.locals.specs.declared.frame.Locals.{Locals}
use Rattle.locals.specs.declared.frame.Frame.{Frame}
use Rattle.locals.specs.Threads.{Runs, Dies}
use Rattle.locals.specs.Looks.{Look, Goes, Then, truth, signed_result, operator_effect, at_place, or_dies, effect}
use Rattle.meaning.specs.Values.{Evaluated, Value, Fails, is_integer, integer, quotient_or_fault, both, unary, is_true}
use Rattle.meaning.specs.Values as v
use Rattle.proof_thread.specs.Typed.{HasValue}
use Rattle.proof_thread.specs.Evaluation.{OfType}

pub back : (x : ℤ) → FitsSigned w32 x → signed_of (word_of x) ≡ x
back x h = to_z-of_z w32 x h

-- what an evaluation is to the look at one instruction
abbrev pub shown : Evaluated → List ℕ → ℕ → Locals → List Frame → Look
shown (Value z) rest place l fs = Goes (Runs (place + 1) (word_of z ∷ rest) l fs)
shown (Fails fault) rest place l fs = Goes (Dies (Faulted fault))

by_range : (z : ℤ) (b : Bool) (rest : List ℕ) (place : ℕ) (l : Locals) (fs : List Frame) → or_dies b ResultOutOfRange
    (Goes (Runs (place + 1) (word_of z ∷ rest) l fs)) ≡ shown
    (if b then Value z else Fails ResultOutOfRange) rest place l fs
by_range z true rest place l fs = refl
by_range z false rest place l fs = refl

pub integer_shown : (z : ℤ) (rest : List ℕ) (place : ℕ) (l : Locals) (fs : List Frame) → at_place place l fs
    (signed_result z rest) ≡ shown (integer z) rest place l fs
integer_shown (pos n) rest place l fs = by_range (pos n) (nat_lt n 2147483648) rest place l fs
integer_shown (negsuc n) rest place l fs = by_range (negsuc n) (nat_lt n 2147483648) rest place l fs

-- a truth value is 0 or 1
pub truth_word : (b : Bool) → truth b ≡ word_of (v.truth b)
truth_word true = refl
truth_word false = refl

pub truth_shown : (b : Bool) (rest : List ℕ) (place : ℕ) (l : Locals) (fs : List Frame) → at_place place l fs
    (Then (truth b ∷ rest)) ≡ shown (Value (v.truth b)) rest place l fs
truth_shown true rest place l fs = refl
truth_shown false rest place l fs = refl

pub small_fits : (n : ℕ) → n < 2 ^ 31 → FitsSigned w32 (pos n)
small_fits n h = search rules

-- a value of any type fits a word
pub value_fits : (version : ImageVersion) (made : ℕ) → (t : ValueType) (z : ℤ) → HasValue (most_of version) made t z
    → FitsSigned w32 z
value_fits version made Integer z h = h
value_fits version made Boolean z (inl e) = subst (FitsSigned w32) (sym e) (small_fits 0 (omega arith))
value_fits version made Boolean z (inr e) = subst (FitsSigned w32) (sym e) (small_fits 1 (omega arith))
value_fits version made Process z h =
    let few = most_few version in
    subst (FitsSigned w32) (sym h.1) (small_fits h.0 (omega (arith, h.3, few)))

pub word_injective : (x y : ℤ) → FitsSigned w32 x → FitsSigned w32 y → word_of x ≡ word_of y → x ≡ y
word_injective x y hx hy e = sym (back x hx) ∙ ap signed_of e ∙ back y hy

same_decision : {P : Type 0} (a b : Bool) → (a ≡ true → P) → (P → a ≡ true) → (b ≡ true → P) → (P → b ≡ true) → a ≡ b
same_decision true true f g h k = refl
same_decision false false f g h k = refl
same_decision true false f g h k = sym (k (f refl))
same_decision false true f g h k = g (h refl)

equal_true : (x y : ℤ) → int_eq x y ≡ true → x ≡ y
equal_true x y h = grind (arith, Decides-int_eq x y, h)

true_equal : (x y : ℤ) → x ≡ y → int_eq x y ≡ true
true_equal x y h = grind (arith, Decides-int_eq x y, h)

true_words : (x y : ℤ) → x ≡ y → (word_of x == word_of y) ≡ true
true_words x y h = let e = ap word_of h in grind (arith, Decides-eqb (word_of x) (word_of y), e)

-- words are equal exactly where the values are
pub equal_words : (x y : ℤ) → FitsSigned w32 x → FitsSigned w32 y → (word_of x == word_of y) ≡ int_eq x y
equal_words x y hx hy = same_decision (word_of x == word_of y) (int_eq x y)
    (λ h. word_injective x y hx hy (eqb-true (word_of x) (word_of y) h)) (true_words x y) (equal_true x y)
    (true_equal x y)

zero_fits : FitsSigned w32 (pos 0)
zero_fits = small_fits 0 (omega arith)

-- a word is 0 exactly where the value is
pub zero_word : (x : ℤ) → FitsSigned w32 x → (word_of x == 0) ≡ int_eq x (pos 0)
zero_word x h = equal_words x (pos 0) h zero_fits

and_shown : (most made : ℕ) → (a b : ℤ) (rest : List ℕ) (place : ℕ) (l : Locals) (fs : List Frame)
    → HasValue most made Boolean a
    → HasValue most made Boolean b → at_place place l fs (operator_effect BitAnd (word_of a) (word_of b) rest) ≡ shown
    (both And a b) rest place l fs
and_shown most made a b rest place l fs (inl x) (inl y) = rw x refl
and_shown most made a b rest place l fs (inl x) (inr y) = rw x refl
and_shown most made a b rest place l fs (inr x) (inl y) = rw (x, y) refl
and_shown most made a b rest place l fs (inr x) (inr y) = rw (x, y) refl

or_shown : (most made : ℕ) → (a b : ℤ) (rest : List ℕ) (place : ℕ) (l : Locals) (fs : List Frame)
    → HasValue most made Boolean a
    → HasValue most made Boolean b → at_place place l fs (operator_effect BitOr (word_of a) (word_of b) rest) ≡ shown
    (both Or a b) rest place l fs
or_shown most made a b rest place l fs (inl x) (inl y) = rw (x, y) refl
or_shown most made a b rest place l fs (inl x) (inr y) = rw (x, y) refl
or_shown most made a b rest place l fs (inr x) (inl y) = rw (x, y) refl
or_shown most made a b rest place l fs (inr x) (inr y) = rw (x, y) refl

divides_by : (b : Bool) (e : Look) (a d : ℤ) (quotient : Evaluated) (rest : List ℕ) (place : ℕ) (l : Locals)
    (fs : List Frame) → b ≡ int_eq d (pos 0) → e ≡ shown quotient rest place l fs → or_dies
    (not b) DivisionByZero e ≡ shown (quotient_or_fault a d quotient) rest place l fs
divides_by true e a d quotient rest place l fs h k = rw (sym h) refl
divides_by false e a d quotient rest place l fs h k = rw (sym h) k

abs_fits : (d : ℤ) → FitsSigned w32 d → unsigned_abs d ≤ 2 ^ 31
abs_fits (pos n) h = search rules
abs_fits (negsuc n) h = search rules

rem_fits : (a d : ℤ) → FitsSigned w32 d → 0 < unsigned_abs d → FitsSigned w32 (int_rem a d)
rem_fits a d hd some = let b = rem_below a d some in let c = abs_fits d hd in fits_signed_from_abs w32 (int_rem a d)
    (omega (arith, b, c))

-- an operator on the words of two values of a type that it takes
pub both_shown : (version : ImageVersion) (made : ℕ) → (op : Operator) (t : ValueType) (a b : ℤ) (rest : List ℕ)
    (place : ℕ) (l : Locals) (fs : List Frame) → Takes op t → HasValue (most_of version) made t a
    → HasValue (most_of version) made t b
    → at_place place l fs (operator_effect (operation op) (word_of a) (word_of b) rest) ≡ shown (both op a b) rest place l
    fs
both_shown version made Add t a b rest place l fs k ha hb = rw (
  back a (value_fits version made t a ha),
  back b (value_fits version made t b
      hb),
)
    (integer_shown (a +ℤ b) rest place l fs)
both_shown version made Subtract t a b rest place l fs k ha hb = rw (
  back a (value_fits version made t a ha),
  back b (value_fits version made
      t b hb),
)
    (integer_shown (a -ℤ b) rest place l fs)
both_shown version made Multiply t a b rest place l fs k ha hb = rw (
  back a (value_fits version made t a ha),
  back b (value_fits version made
      t b hb),
)
    (integer_shown (a *ℤ b) rest place l fs)
both_shown version made Divide t a b rest place l fs k ha hb =
    rw (back a (value_fits version made t a ha), back b (value_fits version made t b hb))
    (divides_by (word_of b == 0) _ a b (integer (int_div a b)) rest place l fs (zero_word b
    (value_fits version made t b hb))
    (integer_shown (int_div a b) rest place l fs))
both_shown version made Modulo t a b rest place l fs k ha hb =
    rw (back a (value_fits version made t a ha), back b (value_fits version made t b hb))
    (divides_by (word_of b == 0) _ a b (Value (int_rem a b)) rest place l fs (zero_word b
    (value_fits version made t b hb))
    refl)
both_shown version made Equal t a b rest place l fs k ha hb =
    rw (equal_words a b (value_fits version made t a ha) (value_fits version made t
    b hb))
    (truth_shown (int_eq a b) rest place l fs)
both_shown version made NotEqual t a b rest place l fs k ha hb =
    rw (equal_words a b (value_fits version made t a ha) (value_fits
    version made t b hb))
    (truth_shown (not (int_eq a b)) rest place l fs)
both_shown version made Less t a b rest place l fs k ha hb = rw (
  back a (value_fits version made t a ha),
  back b (value_fits version made t b
      hb),
)
    (truth_shown (int_lt a b) rest place l fs)
both_shown version made LessEqual t a b rest place l fs k ha hb = rw (
  back a (value_fits version made t a ha),
  back b (value_fits
      version made t b hb),
)
    (truth_shown (int_le a b) rest place l fs)
both_shown version made Greater t a b rest place l fs k ha hb = rw (
  back a (value_fits version made t a ha),
  back b (value_fits version made
      t b hb),
)
    (truth_shown (int_lt b a) rest place l fs)
both_shown version made GreaterEqual t a b rest place l fs k ha hb = rw (
  back a (value_fits version made t a ha),
  back b (value_fits
      version made t b hb),
)
    (truth_shown (int_le b a) rest place l fs)
both_shown version made And t a b rest place l fs k ha hb = and_shown (most_of version) made a b rest place l fs (subst
    (λ u. HasValue (most_of version) made u a) k ha)
    (subst (λ u. HasValue (most_of version) made u b) k hb)
both_shown version made Or t a b rest place l fs k ha hb = or_shown (most_of version) made a b rest place l fs (subst
    (λ u. HasValue (most_of version) made u a) k ha)
    (subst (λ u. HasValue (most_of version) made u b) k hb)

-- a minus before the word of a value, and a NOT
pub unary_shown : (version : ImageVersion) (made most t : ℕ) (op : UnaryOperator) (a : ℤ) (rest : List ℕ) (place : ℕ)
    (l : Locals) (fs : List Frame) → HasValue (most_of version) made (unary_type op) a
    → at_place place l fs (effect most t (unary_code op) (word_of a ∷ rest) l) ≡ shown (unary op a) rest place l fs
unary_shown version made most t NegateOf a rest place l fs h =
    rw (back a h) (integer_shown (neg_ℤ a) rest place l fs)
unary_shown version made most t NotOf a rest place l fs h = rw (zero_word a (value_fits version made Boolean a h))
    (not_shown (int_eq a (pos 0)) rest place l fs)
  where
    not_shown : (b : Bool) (rest : List ℕ) (place : ℕ) (l : Locals) (fs : List Frame) → at_place place l fs
        (Then (truth b ∷ rest)) ≡ shown (Value (v.truth (not (not b)))) rest place l fs
    not_shown true rest place l fs = refl
    not_shown false rest place l fs = refl

in_range_fits : (z : ℤ) → is_integer z ≡ true → FitsSigned w32 z
in_range_fits (pos n) h = let e = ltb-true n 2147483648 h in small_fits n e
in_range_fits (negsuc n) h = let e = ltb-true n 2147483648 h in negative_fits n e
  where
    negative_fits : (n : ℕ) → n < 2 ^ 31 → FitsSigned w32 (negsuc n)
    negative_fits n h = search rules

pub integer_typed : (most made : ℕ) → (z : ℤ) → OfType most made Integer (integer z)
integer_typed most made z = by_test (is_integer z) refl
  where
    by_test : (b : Bool) → is_integer z ≡ b → OfType most made Integer (if b then Value z else Fails ResultOutOfRange)
    by_test true h = in_range_fits z h
    by_test false h = tt

pub truth_typed : (most made : ℕ) → (b : Bool) → HasValue most made Boolean (v.truth b)
truth_typed most made true = inr refl
truth_typed most made false = inl refl

positive : (d : ℤ) → int_eq d (pos 0) ≡ false → 0 < unsigned_abs d
positive (pos zero) h = absurd cc
positive (pos (suc n)) h = omega arith
positive (negsuc n) h = omega arith

divided_typed : (most made : ℕ) → (a d : ℤ) (quotient : Evaluated) → (0 < unsigned_abs d
    → OfType most made Integer quotient) → OfType most made Integer
    (quotient_or_fault a d quotient)
divided_typed most made a d quotient h = by_test (int_eq d (pos 0)) refl
  where
    by_test : (b : Bool) → int_eq d (pos 0) ≡ b
        → OfType most made Integer (if not b then quotient else Fails DivisionByZero)
    by_test true e = tt
    by_test false e = h (positive d e)

pub both_typed : (version : ImageVersion) (made : ℕ) → (op : Operator) (t : ValueType) (a b : ℤ) → Takes op t
    → HasValue (most_of version) made t a → HasValue (most_of version) made t b
    → OfType (most_of version) made (result_type op) (both op a b)
both_typed version made Add t a b k ha hb = integer_typed (most_of version) made (a +ℤ b)
both_typed version made Subtract t a b k ha hb = integer_typed (most_of version) made (a -ℤ b)
both_typed version made Multiply t a b k ha hb = integer_typed (most_of version) made (a *ℤ b)
both_typed version made Divide t a b k ha hb = divided_typed (most_of version) made a b (integer (int_div a b))
    (λ _. integer_typed (most_of version) made (int_div a b))
both_typed version made Modulo t a b k ha hb = divided_typed (most_of version) made a b (Value (int_rem a b))
    (λ some. rem_fits a b (value_fits version made t b hb) some)
both_typed version made Equal t a b k ha hb = truth_typed (most_of version) made (int_eq a b)
both_typed version made NotEqual t a b k ha hb = truth_typed (most_of version) made (not (int_eq a b))
both_typed version made Less t a b k ha hb = truth_typed (most_of version) made (int_lt a b)
both_typed version made LessEqual t a b k ha hb = truth_typed (most_of version) made (int_le a b)
both_typed version made Greater t a b k ha hb = truth_typed (most_of version) made (int_lt b a)
both_typed version made GreaterEqual t a b k ha hb = truth_typed (most_of version) made (int_le b a)
both_typed version made And t a b k ha hb = truth_typed (most_of version) made (is_true a && is_true b)
both_typed version made Or t a b k ha hb = truth_typed (most_of version) made (is_true a || is_true b)

pub unary_typed : (most made : ℕ) → (op : UnaryOperator) (a : ℤ) → OfType most made (unary_type op) (unary op a)
unary_typed most made NegateOf a = integer_typed most made (neg_ℤ a)
unary_typed most made NotOf a = truth_typed most made (not (is_true a))
