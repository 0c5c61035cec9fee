-- A place that is noted beside others leaves them right.
use Rattle.std.proofs.Common.{◌≡◌, ◌+◌, ◌&&◌, ◌⊎◌, inl, inr, ℕ, zero, suc, Bool, true, false, List, [], ◌∷◌, Some}
use Rattle.std.proofs.Common.{◌<◌, length, slice_get, slice_index_or, slice_set, replicate, refl, ap, sym, ◌∙◌, subst}
use Rattle.std.proofs.lemmas.Option.{slice_get-get_or}
use Rattle.isa.specs.declared.instr.Instr.{Instr}
use Rattle.isa.specs.declared.instr.Instr.TheVariants.{Push, GetLocal, SetLocal, Pop, Operate, Negate, Not, Jump}
use Rattle.isa.specs.declared.instr.Instr.TheVariants.{JumpIfZero, Call, Ret, RetValue, Index, OwnNumber}
use Rattle.isa.specs.declared.instr.Instr.TheVariants.{ProcessAddress, Raise, Load, Store, Swap, CompareSwap}
use Rattle.isa.specs.declared.instr.Instr.TheVariants.{FetchOr, FetchAdd, Fork, Print, FutexWait, FutexWake}
use Rattle.isa.specs.declared.instr.Instr.TheVariants.{FutexRequeue}
use Rattle.runner.specs.CalmCode.{IsClosed, is_calm, leads_calmly}

pub both : (a b : Bool) → (a && b) ≡ true → (a ≡ true) × (b ≡ true)
both true true h = (refl, refl)
both true false h = absurd cc
both false b h = absurd cc

together : (a b : Bool) → a ≡ true → b ≡ true → (a && b) ≡ true
together true true l r = refl
together true false l r = absurd cc
together false b l r = absurd cc

more : (places : List Bool) (at j : ℕ) → is_calm places j ≡ true → is_calm (slice_set places at true) j ≡ true
more [] at j h = h
more (b ∷ bs) zero zero h = refl
more (b ∷ bs) zero (suc j) h = h
more (b ∷ bs) (suc at) zero h = h
more (b ∷ bs) (suc at) (suc j) h = more bs at j h

less : (places : List Bool) (at j : ℕ) → is_calm (slice_set places at true) j ≡ true
    → (j ≡ at) ⊎ (is_calm places j ≡ true)
less [] at j h = inr h
less (b ∷ bs) zero zero h = inl refl
less (b ∷ bs) zero (suc j) h = inr h
less (b ∷ bs) (suc at) zero h = inr h
less (b ∷ bs) (suc at) (suc j) h = elim (less bs at j h) [
  | inl is ↦ inl (ap suc is)
  | inr calm ↦ inr calm
]

still : (places : List Bool) (at j : ℕ) (i : Instr) → leads_calmly places j i ≡ true
    → leads_calmly (slice_set places at true) j i ≡ true
still places at j (Push n) h = more places at (j + 1) h
still places at j (GetLocal slot) h = more places at (j + 1) h
still places at j (SetLocal slot) h = more places at (j + 1) h
still places at j Pop h = more places at (j + 1) h
still places at j (Operate operator) h = more places at (j + 1) h
still places at j Negate h = more places at (j + 1) h
still places at j Not h = more places at (j + 1) h
still places at j (Jump to) h = more places at to h
still places at j (JumpIfZero to) h =
    let b = both (is_calm places to) (is_calm places (j + 1)) h in
    together (is_calm (slice_set places at true) to) (is_calm (slice_set places at true) (j + 1)) (more places at to b.0)
    (more places at (j + 1) b.1)
still places at j (Call to) h = more places at to h
still places at j Ret h = absurd cc
still places at j RetValue h = absurd cc
still places at j (Index base size) h = more places at (j + 1) h
still places at j OwnNumber h = more places at (j + 1) h
still places at j (ProcessAddress word) h = more places at (j + 1) h
still places at j (Raise fault) h = refl
still places at j Load h = refl
still places at j Store h = refl
still places at j Swap h = refl
still places at j CompareSwap h = refl
still places at j FetchOr h = refl
still places at j FetchAdd h = refl
still places at j (Fork entry count) h = refl
still places at j Print h = refl
still places at j FutexWait h = absurd cc
still places at j FutexWake h = absurd cc
still places at j FutexRequeue h = absurd cc

one_instr : (i j : Instr) → Some i ≡ Some j → i ≡ j
one_instr i j h = cc

pub closed_more : (code : List Instr) (places : List Bool) (at : ℕ) (i : Instr) → IsClosed code places
    → slice_get code at ≡ Some i → leads_calmly places at i ≡ true → IsClosed code (slice_set places at true)
closed_more code places at i closed stands leads = λ j i' calm stands'.
    elim (less places at j calm) [
      | inl is ↦
          let here = subst (λ (n : ℕ). slice_get code n ≡ Some i') is stands' in
          let same = one_instr i i' (sym stands ∙ here) in
          still places at j i'
          (subst (λ (n : ℕ). leads_calmly places n i' ≡ true) (sym is)
          (subst (λ (x : Instr). leads_calmly places at x ≡ true) same leads))
      | inr before ↦ still places at j i' (closed j i' before stands')
    ]

-- the same of what stands in the code there, as it is read
pub closed_read : (code : List Instr) (places seen : List Bool) (at : ℕ) (d : Instr) (b : Bool) → IsClosed code places
    → seen ≡ places → at < length code → b ≡ leads_calmly seen at (slice_index_or code at d) → b ≡ true
    → IsClosed code (slice_set places at true)
closed_read code places seen at d b closed same inside is leads =
    closed_more code places at (slice_index_or code at d) closed (slice_get-get_or code at d inside)
    (subst (λ (ps : List Bool). leads_calmly ps at (slice_index_or code at d) ≡ true) same (sym is ∙ leads))

none_noted : (n j : ℕ) → is_calm (replicate n false) j ≡ true → ⊥
none_noted zero j h = cc
none_noted (suc n) zero h = cc
none_noted (suc n) (suc j) h = none_noted n j h

-- at first none is
pub closed_none : (code : List Instr) (n : ℕ) → IsClosed code (replicate n false)
closed_none code n = λ at i calm stands. absurd (none_noted n at calm)
