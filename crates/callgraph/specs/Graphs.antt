-- Calls by their callers.
use Rattle.std.specs.Prelude.{ℕ, ◌≡◌, List, [], length, map, filter, nat_eq, slice_index_or}
use Rattle.callgraph.specs.declared.Call.{Call}
use Rattle.callgraph.specs.declared.graph.Graph.{Graph}
use Rattle.callgraph.specs.declared.graph.Row.{Row}
use Rattle.callgraph.specs.Calls.{Within}

-- what a procedure calls, in the order of its calls
abbrev pub callees_of : List Call → ℕ → List ℕ
callees_of calls a = map (λ c. c.callee) (filter (λ c. nat_eq c.caller a) calls)

-- the callees of each caller
abbrev pub rows_of : List Row → List (List ℕ)
rows_of rows = map (λ r. r.callees.items) rows

-- each row has what its procedure calls, and each procedure has a row
pub record IsGraph (calls : List Call) (g : Graph) : Type 0 where
  pub rows : (a : ℕ) → slice_index_or (rows_of g.rows.items) a [] ≡ callees_of calls a
  pub within : Within calls (length g.rows.items)
