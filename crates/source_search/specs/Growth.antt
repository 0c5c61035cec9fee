-- What grew in a search: how many values each variable took in the states that it kept, and in how many ways each process
-- stood.
use Rattle.std.specs.Prelude.{ℕ, ℤ, suc, ◌≡◌, All, Contains, IsSome, List, Option, Some, None, length, map}
use Rattle.std.specs.List.{slice_get}
use Rattle.std.specs.List.Sorted.{IsStrictlySortedBy}
use Rattle.std.specs.Ordering.{int_cmp}
use Rattle.meaning.specs.Processes.{Process}
use Rattle.meaning.specs.States.{SourceState}
use Rattle.source_offers.specs.declared.variables.Place.{Place}
use Rattle.source_search.specs.declared.growth.Growth.{Growth}
use Rattle.source_search.specs.declared.growth.Taken.{Taken}

-- so many different numbers are among these: each once, rising
pub record AreSoMany (taken : List ℤ) (n : ℕ) : Type 0 where
  pub values : List ℤ
  pub rising : IsStrictlySortedBy int_cmp values
  pub all : (v : ℤ) → Contains taken v → Contains values v
  pub only : (v : ℤ) → Contains values v → Contains taken v
  pub count : length values ≡ n

-- the value of a variable in a state
abbrev pub value_at : Place → SourceState → ℤ
value_at x s = s.variable x.monitor x.member x.index

-- the variable took so many values in these states
abbrev pub HasTaken : List SourceState → Taken → Type 0
HasTaken kept t = AreSoMany (map (value_at t.place) kept) t.values

-- in one of these states there is such a process, and it stands in this way: at this place, with these values of its
-- locals
pub record IsWay (kept : List SourceState) (q : ℕ) (way : Option Process) : Type 0 where
  pub there : IsSome way
  pub state : SourceState
  pub is_kept : Contains kept state
  pub stands : state.process q ≡ way

-- these are the ways in which the process stood in these states, so many of them; some may be the same
pub record HasStood (kept : List SourceState) (q n : ℕ) : Type 0 where
  pub ways : List (Option Process)
  pub all : (way : Option Process) → IsWay kept q way → Contains ways way
  pub only : (way : Option Process) → Contains ways way → IsWay kept q way
  pub count : length ways ≡ n

-- the number at a place, or 0 behind the last one
abbrev pub counted : Option ℕ → ℕ
counted None = 0
counted (Some n) = n

-- each process, from 1, stood in so many ways; those behind the last one in none
abbrev pub HaveStood : List SourceState → List ℕ → Type 0
HaveStood kept counts = (k : ℕ) → HasStood kept (suc k) (counted (slice_get counts k))

-- this is what grew in these states
pub record HasGrown (kept : List SourceState) (g : Growth) : Type 0 where
  pub variables : All (HasTaken kept) g.variables.items
  pub processes : HaveStood kept g.processes.items

-- the variables of which something is told
abbrev pub places_in : Growth → List Place
places_in g = map (λ t. t.place) g.variables.items
