-- Lists of monitors, none of which stands in them twice.
use Rattle.std.proofs.Common.{◌≡◌, ◌⊎◌, ℕ, zero, suc, List, [], ◌∷◌, ◌++◌, length, ◌<◌, Contains, sym, ◌∙◌, inl, inr}
use Rattle.std.proofs.Common.{arith}
use Rattle.std.specs.Prelude.{⊤}
use Rattle.std.proofs.lemmas.Bool.{cases_eq, eq-eqb, ne_eqb}
use Rattle.meaning.specs.Processes.{without_monitor}

-- by cases on the list
abbrev pub IsIn : List ℕ → ℕ → Type 0
IsIn [] n = ⊥
IsIn (m ∷ ms) n = (n ≡ m) ⊎ IsIn ms n

abbrev pub IsDistinct : List ℕ → Type 0
IsDistinct [] = ⊤
IsDistinct (m ∷ ms) = (IsIn ms m → ⊥) × IsDistinct ms

pub in_contained : (ms : List ℕ) (n : ℕ) → Contains ms n → IsIn ms n
in_contained [] n (k, less, is) = absurd (omega (arith, less))
in_contained (m ∷ ms) n (zero, less, is) = inl (sym is)
in_contained (m ∷ ms) n (suc k, less, is) = inr (in_contained ms n (k, omega (arith, less), is))

pub contained_in : (ms : List ℕ) (n : ℕ) → IsIn ms n → Contains ms n
contained_in [] n is = absurd is
contained_in (m ∷ ms) n (inl e) = (0, omega arith, sym e)
contained_in (m ∷ ms) n (inr later) =
    let c : Contains ms n = contained_in ms n later in
    let less : c.0 < length ms = c.1 in
    (suc c.0, omega (arith, less), c.2)

pub in_without : (m : ℕ) (ms : List ℕ) (n : ℕ) → IsIn ms n → (n ≡ m → ⊥) → IsIn (without_monitor m ms) n
in_without m [] n is ne = is
in_without m (x ∷ xs) n is ne = elim (cases_eq x m) [
  | inl e ↦ rw (eq-eqb x m e) (elim is [
    | inl here ↦ absurd (ne (here ∙ e))
    | inr later ↦ in_without m xs n later ne
  ])
  | inr other ↦ rw (ne_eqb x m other) (elim is [
    | inl here ↦ inl here
    | inr later ↦ inr (in_without m xs n later ne)
  ])
]

pub in_with : (m : ℕ) (ms : List ℕ) (n : ℕ) → IsIn (without_monitor m ms) n → (n ≡ m → ⊥) × IsIn ms n
in_with m [] n is = absurd is
in_with m (x ∷ xs) n is = elim (cases_eq x m) [
  | inl e ↦ (let r : (n ≡ m → ⊥) × IsIn xs n = in_with m xs n (rw (eq-eqb x m e) at is) in (r.0, inr r.1))
  | inr other ↦ kept other (λ later. in_with m xs n later) (rw (ne_eqb x m other) at is)
]
  where
    kept : (x ≡ m → ⊥) → (IsIn (without_monitor m xs) n → (n ≡ m → ⊥) × IsIn xs n)
        → IsIn (x ∷ without_monitor m xs) n → (n ≡ m → ⊥) × IsIn (x ∷ xs) n
    kept other rest (inl here) = ((λ e. other (sym here ∙ e)), inl here)
    kept other rest (inr later) = let r : (n ≡ m → ⊥) × IsIn xs n = rest later in (r.0, inr r.1)

pub distinct_without : (m : ℕ) (ms : List ℕ) → IsDistinct ms → IsDistinct (without_monitor m ms)
distinct_without m [] is = is
distinct_without m (x ∷ xs) is = elim (cases_eq x m) [
  | inl e ↦ rw (eq-eqb x m e) (distinct_without m xs is.1)
  | inr other ↦ rw (ne_eqb x m other) ((λ i. is.0 (in_with m xs x i).1), distinct_without m xs is.1)
]

-- with one more behind them
pub in_behind : (ms : List ℕ) (m n : ℕ) → IsIn (ms ++ m ∷ []) n → (n ≡ m) ⊎ IsIn ms n
in_behind [] m n (inl e) = inl e
in_behind [] m n (inr is) = absurd is
in_behind (x ∷ xs) m n (inl e) = inr (inl e)
in_behind (x ∷ xs) m n (inr later) = elim (in_behind xs m n later) [
  | inl e ↦ inl e
  | inr is ↦ inr (inr is)
]

pub behind_in : (ms : List ℕ) (m n : ℕ) → (n ≡ m) ⊎ IsIn ms n → IsIn (ms ++ m ∷ []) n
behind_in [] m n (inl e) = inl e
behind_in [] m n (inr is) = absurd is
behind_in (x ∷ xs) m n (inl e) = inr (behind_in xs m n (inl e))
behind_in (x ∷ xs) m n (inr (inl e)) = inl e
behind_in (x ∷ xs) m n (inr (inr is)) = inr (behind_in xs m n (inr is))

pub distinct_behind : (ms : List ℕ) (m : ℕ) → IsDistinct ms → (IsIn ms m → ⊥) → IsDistinct (ms ++ m ∷ [])
distinct_behind [] m is new = ((λ i. i), tt)
distinct_behind (x ∷ xs) m is new = (
  (λ i. elim (in_behind xs m x i) [ inl e ↦ new (inl (sym e)) | inr later ↦ is.0 later ]),
  distinct_behind xs m is.1 (λ i. new (inr i)),
)
