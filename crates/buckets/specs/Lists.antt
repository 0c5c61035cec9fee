-- The lists of the buckets, in each of which sleepers of several addresses stand, and the table of the threads' places.
use Rattle.std.specs.Prelude.{◌≡◌, ℕ, ◌+◌, ◌<◌, ◌≤◌, ◌%◌, Bool, false, nat_eq}
use Rattle.std.specs.Prelude.{Option, Some, None, List, [], ◌∷◌, length, slice_index_or, IsTrue, ⊤}
use Rattle.std.specs.List.{flat_map, list_any}
use Rattle.words.specs.Limits.{most_threads}
use Rattle.words.specs.declared.mem.Addr.{Addr}
use Rattle.buckets.specs.declared.sleeper.Sleeper.{Sleeper}

-- the lists of the buckets, one after another
abbrev pub concatenation : List (List Sleeper) → List Sleeper
concatenation rows = flat_map (λ row. row) rows

-- whether a thread stands in a list
abbrev pub among : ℕ → List Sleeper → Bool
among t ss = list_any (λ s. nat_eq t s.thread) ss

-- the sleepers of bucket k of n: each belongs there, sleeps where the table says, and stands there once
abbrev pub Stand : List (Option Addr) → ℕ → ℕ → List Sleeper → Type 0
Stand places n k [] = ⊤
Stand places n k (s ∷ ss) = (s.address.0 % n ≡ k) × (slice_index_or places s.thread None ≡ Some s.address)
    × (among s.thread ss ≡ false) × Stand places n k ss

-- the table of places and the lists of the buckets say the same
pub record IsConsistent (places : List (Option Addr)) (rows : List (List Sleeper)) : Type 0 where
  pub threads : 1 ≤ length places
  pub few : length places ≤ most_threads + 1
  pub no_zero : slice_index_or places 0 None ≡ None
  pub some : 1 ≤ length rows
  pub stand : (k : ℕ) → k < length rows → Stand places (length rows) k (slice_index_or rows k [])
  pub found : (t : ℕ) (a : Addr) → slice_index_or places t None ≡ Some a → IsTrue
      (among t (slice_index_or rows (a.0 % length rows) []))
