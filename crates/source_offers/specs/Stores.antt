-- The values that were assigned, as the value of each variable.
use Rattle.std.specs.Prelude.{List, ℤ}
use Rattle.std.specs.Ordering.{nat_cmp, ordering_then}
use Rattle.std.specs.declared.cmp.Ordering.{Ordering}
use Rattle.sorted_map.specs.Maps.{get}
use Rattle.meaning.specs.Values.{Variables, or_zero}
use Rattle.source_offers.specs.declared.variables.Place.{Place}
use Rattle.source_offers.specs.declared.variables.Variables.{Variables as Store}

-- the order of places: by monitor, member, index
abbrev pub place_cmp : Place → Place → Ordering
place_cmp p q =
    ordering_then (nat_cmp p.monitor q.monitor) (ordering_then (nat_cmp p.member q.member) (nat_cmp p.index q.index))

-- a variable to which nothing was assigned is 0
abbrev pub variables_in : List (Place × ℤ) → Variables
variables_in map m n i = or_zero (get place_cmp map (record { monitor = m; member = n; index = i }))

-- the value of each variable
abbrev pub variables_of : Store → Variables
variables_of store = variables_in store.values
