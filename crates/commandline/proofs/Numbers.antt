-- The number that a typed getter reads.
use Rattle.std.proofs.Common.{◌≡◌, ◌<◌, ◌^◌, ℕ, Option, Some, None, Result, Ok, Err, IfSome, ap, refl, sym, ◌∙◌, subst, unwrap_or}
use Rattle.std.specs.Str.Parse.{ParsesUnsigned, digits_value, without_leading_plus}
use Rattle.clap.specs.Words.{ReadsOne, Text}
use Rattle.commandline.specs.CommandLine.{IsNumberOf}

abbrev Stands : {X : Type 0} → Option X → Type 0
Stands None = ⊥
Stands (Some x) = Unit {0}

pub no_value : {X : Type 0} (o : Option X) (x : X) → o ≡ None → o ≡ Some x → ⊥
no_value o x none some = subst Stands (sym some ∙ none) tt

-- where a number was read, there is a text, and it writes that number
pub number_read : (E : Type 0) (G : Text → Result ℕ E → Type 0) (k : ℕ)
    → ((u : Text) (x : Result ℕ E) → G u x → ParsesUnsigned k 10 u x)
    → (o : Option Text) (r : Option ℕ) → (o ≡ None → r ≡ None) → ((t : Text) → o ≡ Some t → ReadsOne G t r)
    → IfSome r (IsNumberOf o k)
number_read E G k only o None none some = tt
number_read E G k only None (Some n) none some = absurd (no_value (Some n) n (none refl) refl)
number_read E G k only (Some t) (Some n) none some =
    let parsed = only t (Ok n) (some t refl) in
    (t, refl, parsed.0.0, parsed.1, subst (λ (m : ℕ). m < 2 ^ k) (sym parsed.1) parsed.0.1)

-- where none was read, no text writes one
pub no_number : (E : Type 0) (G : Text → Result ℕ E → Type 0) (k : ℕ)
    → ((u : Text) (x : Result ℕ E) → G u x → ParsesUnsigned k 10 u x)
    → (o : Option Text) (r : Option ℕ) → ((t : Text) → o ≡ Some t → ReadsOne G t r) → r ≡ None
    → (n : ℕ) → IsNumberOf o k n → ⊥
no_number E G k only o r some none n (t, is, numeral, value, small) =
    let read : ReadsOne G t None = subst (λ (x : Option ℕ). ReadsOne G t x) none (some t is) in
    only t (Err read.0) read.1 (numeral, subst (λ (m : ℕ). m < 2 ^ k) value small)

-- a text writes one number
pub same_number : (o : Option Text) (k m n : ℕ) → IsNumberOf o k m → IsNumberOf o k n → m ≡ n
same_number None k m n a b = absurd (no_value None a.0 refl a.1)
same_number (Some t) k m n a b =
    let one : a.0 ≡ b.0 = some_same _ _ (sym a.1 ∙ b.1) in
    a.3 ∙ ap (λ u. digits_value 10 (without_leading_plus u)) one ∙ sym b.3
  where
    some_same : (x y : Text) → Some x ≡ Some y → x ≡ y
    some_same x y same = ap (λ o. unwrap_or o x) same
