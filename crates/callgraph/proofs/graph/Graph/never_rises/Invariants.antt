use Rattle.std.proofs.Common.{ℕ, ◌<◌, ◌≤◌, List, slice_index_or}
use Rattle.callgraph.specs.declared.Call.{Call}
use Rattle.callgraph.specs.Calls.{IsCall}
use Rattle.callgraph.specs.Graphs.{IsGraph}
use Rattle.callgraph.proofs.graph.Graph.never_rises.Given as goal

abbrev pub invariant-loop-procedure : goal.invariant-loop-procedure
invariant-loop-procedure l = (calls : List Call) → IsGraph calls l.self → (a b : ℕ) → a < l.procedure
    → IsCall calls a b → slice_index_or l.levels b 0 ≤ slice_index_or l.levels a 0
