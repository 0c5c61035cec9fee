-- Calls among procedures, which are numbered from 0.
use Rattle.std.specs.Prelude.{ℕ, zero, suc, ◌<◌, List, length, Bool, true, ◌&&◌, nat_eq, Contains, slice_index_or}
use Rattle.std.specs.List.{list_any}
use Rattle.callgraph.specs.declared.Call.{Call}

-- caller and callee of each call are below this number
abbrev pub Within : List Call → ℕ → Type 0
Within calls count = (i : ℕ) (c : Call) → i < length calls
    → (slice_index_or calls i c).caller < count × ((slice_index_or calls i c).callee < count)

-- whether a chain of this many calls begins at a procedure
abbrev pub has_chain : List Call → ℕ → ℕ → Bool
has_chain calls zero a = true
has_chain calls (suc n) a = list_any (λ c. nat_eq c.caller a && has_chain calls n c.callee) calls

-- there is a call from a procedure to another
abbrev pub IsCall : List Call → ℕ → ℕ → Type 0
IsCall calls a b = Contains calls (record { caller = a; callee = b })

-- calls lead from a procedure to another, by one or more
pub data Leads (calls : List Call) (a : ℕ) : ℕ → Type 0 where
  Directly : (b : ℕ) → IsCall calls a b → Leads calls a b
  Through : (b c : ℕ) → Leads calls a b → IsCall calls b c → Leads calls a c
