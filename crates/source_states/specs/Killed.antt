-- What a killed process abandons, by what it holds and what it is just taking or giving up.
use Rattle.std.specs.Prelude.{ℕ, ◌≡◌, ◌↔◌, ◌++◌, List, [], ◌∷◌, Option, Some, None, Contains}
use Rattle.meaning.specs.Processes.{without_monitor}

-- a number of this kind is this one alone, or there is none
abbrev pub IsTheOne : Option ℕ → (ℕ → Type 0) → Type 0
IsTheOne None Holds = (n : ℕ) → Holds n → ⊥
IsTheOne (Some m) Holds = (n : ℕ) → Holds n ↔ (m ≡ n)

-- the monitors that it held, innermost first; but one that may come last does
abbrev pub IsLeftOf : List ℕ → (ℕ → Type 0) → Option ℕ → List ℕ → Type 0
IsLeftOf held MayBeLast None ms = ms ≡ held
IsLeftOf held MayBeLast (Some m) ms = Contains held m × MayBeLast m × (ms ≡ without_monitor m held ++ m ∷ [])

-- these are left, or no monitors are
abbrev pub IsLeftAnswer : Option (List ℕ) → (List ℕ → Type 0) → Type 0
IsLeftAnswer (Some ms) Left = Left ms
IsLeftAnswer None Left = (ms : List ℕ) → Left ms → ⊥
