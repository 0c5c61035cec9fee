-- Sets of sleepers, as lists.
use Rattle.std.specs.Prelude.{ℕ, ◌≡◌, ◌⊎◌, ◌-◌, List, Bool, Contains, Vec, filter, map, length, nat_eq, nat_le, IsTrue, Option, if◌then◌else◌}
use Rattle.std.specs.List.{IsDistinct}
use Rattle.std.specs.Global.{Global}
use Rattle.buckets.specs.Places.{names, with_place}
use Rattle.image_states.specs.declared.next.Next.{Next as NextOf}
use Rattle.image_states.specs.declared.packed.Packed.{Packed as PackedOf}
use Rattle.image_states.specs.Crowds.{sleepers_on}
use Rattle.image_states.specs.Packed.{asleep_at, place_of, IsPlaced}
use Rattle.image_states.specs.Room.{AreThreads}

-- for each set, the numbers in it are one of the lists
abbrev pub HasEachSet : List ℕ → List (List ℕ) → Type 0
HasEachSet numbers lists = (is_in : ℕ → Bool) → Contains lists (filter is_in numbers)

-- lists, as their numbers
abbrev pub lists_in : List (Vec ℕ Global) → List (List ℕ)
lists_in lists = map (λ (list : Vec ℕ Global). list.items) lists

-- these are the threads that sleep at a place, each once
pub record AreSleepers (places : List ℕ) (place : ℕ) (sleepers : List ℕ) : Type 0 where
  pub distinct : IsDistinct nat_eq sleepers
  pub sleep : (t : ℕ) → IsTrue (names sleepers t) → asleep_at places t ≡ place_of place
  pub all : (t : ℕ) → asleep_at places t ≡ place_of place → IsTrue (names sleepers t)
  pub threads : AreThreads (length places) sleepers
  pub count : length sleepers ≡ sleepers_on (asleep_at places) (place - 1) (length places)

-- so many of those that sleep at a place, each once
pub record AreChosen (places : List ℕ) (place many : ℕ) (chosen : List ℕ) : Type 0 where
  pub distinct : IsDistinct nat_eq chosen
  pub sleep : (t : ℕ) → IsTrue (names chosen t) → asleep_at places t ≡ place_of place
  pub size : length chosen ≡ many

-- how many of so many sleepers are chosen, where so many may be
abbrev pub chosen_of : ℕ → ℕ → ℕ
chosen_of n sleepers = if nat_le n sleepers then n else sleepers

-- one of the next states is this one but for where threads sleep
pub record HasPlaced (x : PackedOf) (nexts : List NextOf) (asleep : ℕ → Option ℕ) : Type 0 where
  pub next : NextOf
  pub found : Contains nexts next
  pub placed : IsPlaced x next.state asleep
  pub killed : next.state.killed ≡ x.killed

-- the same, with so many killed
pub record HasKilled (x : PackedOf) (nexts : List NextOf) (asleep : ℕ → Option ℕ) (kills : ℕ) : Type 0 where
  pub next : NextOf
  pub found : Contains nexts next
  pub placed : IsPlaced x next.state asleep
  pub killed : next.state.killed ≡ kills

-- a packed state is another one but for some threads, which are at a place
abbrev pub IsPlacedSome : PackedOf → ℕ → PackedOf → Type 0
IsPlacedSome x place y = (chosen : List ℕ) × IsPlaced x y (with_place (asleep_at x.places.items) chosen (place_of place))

-- each of the next states is so, but for those that were there
abbrev pub AddsPlaced : PackedOf → ℕ → List NextOf → List NextOf → Type 0
AddsPlaced x place before after =
    (next : NextOf) → Contains after next → Contains before next ⊎ IsPlacedSome x place next.state
