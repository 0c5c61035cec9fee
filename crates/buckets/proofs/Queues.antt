-- The threads of a list that sleep on an address.
use Rattle.std.proofs.Common.{◌≡◌, ◌≢◌, ◌≤◌, ℕ, List, [], ◌∷◌, length, refl, arith, inl, inr}
use Rattle.std.specs.List.{filter_map}
use Rattle.std.proofs.lemmas.Bool.{cases_eq, eq-eqb, ne_eqb}
use Rattle.buckets.specs.declared.sleeper.Sleeper.{Sleeper}
use Rattle.buckets.specs.Sleepers.{thread_on}

-- the threads of a list that sleep on an address
abbrev pub on : ℕ → List Sleeper → List ℕ
on a ss = filter_map (thread_on a) ss

pub on-here : (a : ℕ) (s : Sleeper) (ss : List Sleeper) → s.address.0 ≡ a → on a (s ∷ ss) ≡ s.thread ∷ on a ss
on-here a s ss h = rw (eq-eqb s.address.0 a h) refl

pub on-elsewhere : (a : ℕ) (s : Sleeper) (ss : List Sleeper) → s.address.0 ≢ a → on a (s ∷ ss) ≡ on a ss
on-elsewhere a s ss h = rw (ne_eqb s.address.0 a h) refl

pub length-on : (a : ℕ) (ss : List Sleeper) → length (on a ss) ≤ length ss
length-on a [] = omega arith
length-on a (s ∷ ss) = elim (cases_eq s.address.0 a) [
  | inl e ↦ rw (on-here a s ss e) (omega (arith, length-on a ss))
  | inr ne ↦ rw (on-elsewhere a s ss ne) (omega (arith, length-on a ss))
]
