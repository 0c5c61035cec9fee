-- What grew in a search, by the numbers of the parts of the kept states.
use Rattle.std.specs.Prelude.{ℕ, ℤ, [], ◌∷◌, Contains, List, Option, Some, None, map}
use Rattle.std.specs.List.{slice_get}
use Rattle.source_offers.specs.declared.variables.Place.{Place}
use Rattle.source_offers.specs.declared.variables.Variables.{Variables as VariablesOf}
use Rattle.source_search.specs.Packed.{some_variables, variables_in}
use Rattle.source_search.specs.declared.packed.Packed.{Packed as PackedOf}

-- the number of the values of the variables of a kept state
abbrev pub variables_number : PackedOf → ℕ
variables_number y = y.variables

-- these are the numbers of the values of the variables of these states
pub record AreNumbersOf (states : List PackedOf) (numbers : List ℕ) : Type 0 where
  pub all : (n : ℕ) → Contains (map variables_number states) n → Contains numbers n
  pub only : (n : ℕ) → Contains numbers n → Contains (map variables_number states) n

-- the value of a variable in the values of a number
abbrev pub value_in : List VariablesOf → Place → ℕ → ℤ
value_in variables x n = some_variables (variables_in variables n) x.monitor x.member x.index

-- a number in a list, where there is one
abbrev pub listed : Option ℕ → List ℕ
listed None = []
listed (Some n) = n ∷ []

-- the number of the part of the process at a place of a kept state, where there is one
abbrev pub part_at : ℕ → PackedOf → List ℕ
part_at place x = listed (slice_get x.processes.items place)
