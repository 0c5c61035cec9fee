-- Where threads sleep: for each thread the address, or none; and for each address the list of its sleepers.
use Rattle.std.specs.Prelude.{◌≡◌, ℕ, Bool, if◌then◌else◌, Option, Some, List, IsTrue, nat_eq}
use Rattle.std.specs.List.{list_any, IsDistinct}

-- whether a list names a thread
abbrev pub names : List ℕ → ℕ → Bool
names threads t = list_any (nat_eq t) threads

-- where threads sleep once those of a list have this place, and the others stay
abbrev pub with_place : (ℕ → Option ℕ) → List ℕ → Option ℕ → ℕ → Option ℕ
with_place asleep threads place t = if names threads t then place else asleep t

-- lists and places agree: a thread sleeps on an address exactly where it stands in that address's list, once
pub record Agree (queue : ℕ → List ℕ) (asleep : ℕ → Option ℕ) : Type 0 where
  pub stands : (t a : ℕ) → asleep t ≡ Some a → IsTrue (names (queue a) t)
  pub sleeps : (t a : ℕ) → IsTrue (names (queue a) t) → asleep t ≡ Some a
  pub distinct : (a : ℕ) → IsDistinct nat_eq (queue a)
