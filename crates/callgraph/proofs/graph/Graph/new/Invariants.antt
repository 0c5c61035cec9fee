use Rattle.std.proofs.Common.{◌≡◌, ℕ, [], slice_index_or, vec_len, take}
use Rattle.callgraph.specs.Graphs.{rows_of, callees_of}
use Rattle.callgraph.proofs.graph.Graph.new.Given as goal

abbrev pub invariant-loop-call : goal.invariant-loop-call
invariant-loop-call l = record {
  len : vec_len l.rows ≡ l.count;
  rows : (a : ℕ) → slice_index_or (rows_of l.rows.items) a [] ≡ callees_of (take l.call-index l.calls) a;
}
