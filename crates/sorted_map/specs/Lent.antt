-- What a map ends as, once a `&mut` into it has ended.
use Rattle.std.specs.Prelude.{◌≡◌, ℕ, Bool, List, Option, Some, IsSome}
use Rattle.std.specs.Borrow.{Fml, RattleType, MutBor, Lends, LendsSo}
use Rattle.std.specs.declared.cmp.Ordering.{Ordering}
use Rattle.sorted_map.specs.Maps.{get, Updates, with_value_at}
use Rattle.sorted_map.specs.contracts.SortedMap.{the_row}

-- what a clause has as K.Ord
abbrev pub OrdMembers : Type 0 → Type 0
OrdMembers K = record { partial_cmp : K → K → Option Ordering; eq : K → K → Bool; cmp : K → K → Ordering }

-- the row of a map
abbrev pub map_row : (K V : RattleType) → OrdMembers K.Denot → RattleType
map_row K V g = the_row K V (record { cmp = g.cmp }) (record { eq = g.eq }) (record { partial_cmp = g.partial_cmp })

module _ (K V : RattleType) (g : OrdMembers K.Denot) (m : MutBor (List (K.Denot × V.Denot))) where
  -- the map has at the place the last value written through r
  abbrev pub lends_value_at : ℕ → MutBor V.Denot → Fml
  lends_value_at i r = Lends (map_row K V g) V m r (with_value_at m.now i)

  -- the map has at the key, where it is there, the last value written through r, and is else as it was
  abbrev pub lends_value : K.Denot → Option (MutBor V.Denot) → Fml
  lends_value k r = LendsSo (map_row K V g) V m r (λ es w. IsSome (get g.cmp m.now k) → Updates g.cmp m.now es k (Some w)) (λ es. es ≡ m.now)
