-- Levels of procedures.
use Rattle.std.specs.Prelude.{ℕ, ◌≤◌, List, slice_index_or}
use Rattle.callgraph.specs.declared.Call.{Call}
use Rattle.callgraph.specs.Calls.{IsCall}

-- the levels never rise along calls
abbrev pub NeverRise : List Call → List ℕ → Type 0
NeverRise calls levels = (a b : ℕ) → IsCall calls a b → slice_index_or levels b 0 ≤ slice_index_or levels a 0
