-- The first of some things that is called so.
use Rattle.std.proofs.Common.{◌≡◌, ◌≢◌, ◌∙◌, ◌<◌, ◌≤◌, ◌+◌, ◌^◌, ℕ, List, ◌++◌, Option, Some, None, MatchOption, ap, arith, inl, inr, length, subst, sym}
use Rattle.std.proofs.lemmas.Bool.{cases_lt}
use Rattle.program.specs.Names.{Naming}
use Rattle.actionlines.specs.Lines.{monitor_name}
use Rattle.action_text.specs.Sized.{HasMonitor, IsNumber}
use Rattle.action_text.proofs.Numbers.{cancel}

-- what holds below a number, and of it
pub up_to : (P : ℕ → Type 0) (n : ℕ) → ((m : ℕ) → m < n → P m) → P n → (m : ℕ) → m < n + 1 → P m
up_to P n below at m less = elim (cases_lt m n) [
  | inl small ↦ below m small
  | inr high ↦ let same : n ≡ m = omega (arith, high, less) in subst P same at
]

module _ (names : Naming) (name : List ℕ) where
  -- a monitor that is called so, or none is
  abbrev pub IsFound : Option ℕ → Type 0
  IsFound r =
      MatchOption r ((m : ℕ) → HasMonitor names m → name ≢ monitor_name names m)
      (λ m. HasMonitor names m × (name ≡ monitor_name names m))

  pub found_at : (r : Option ℕ) (place : ℕ) → MatchOption r (2 ^ 32 ≤ place) (λ m. (m ≡ place) × IsNumber m)
      → place < length names.monitors → name ≡ monitor_name names place
      → ((m : ℕ) → m < place → name ≢ monitor_name names m) → IsFound r
  found_at None place high within is below = λ m has same.
      let small = has.1 in
      below m (omega (arith, small, high)) same
  found_at (Some m) place at within is below =
      let here = at.0 in
      ((omega (arith, here, within), at.1), is ∙ ap (monitor_name names) (sym here))

  -- behind a word
  pub behind_word : (text word : List ℕ) (r : Option ℕ) → text ≡ word ++ name → IsFound r
      → MatchOption r ((m : ℕ) → HasMonitor names m → text ≢ word ++ monitor_name names m)
      (λ m. HasMonitor names m × (text ≡ word ++ monitor_name names m))
  behind_word text word None is none = λ m has same.
      none m has (cancel word name (monitor_name names m) (sym is ∙ same))
  behind_word text word (Some m) is h = (h.0, is ∙ ap (λ (z : List ℕ). word ++ z) h.1)
