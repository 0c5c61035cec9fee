use Rattle.std.proofs.Common.{◌≡◌, ℕ, [], slice_index_or, vec_len}
use Rattle.callgraph.specs.Graphs.{rows_of}
use Rattle.callgraph.proofs.graph.empty_rows.Given as goal

abbrev pub invariant-loop-row : goal.invariant-loop-row
invariant-loop-row l = record {
  len : vec_len l.rows ≡ l._row;
  empty : (a : ℕ) → slice_index_or (rows_of l.rows.items) a [] ≡ [];
}
