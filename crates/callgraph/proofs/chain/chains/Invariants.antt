use Rattle.std.proofs.Common.{◌≡◌, ℕ, ◌<◌, slice_index_or, vec_len, false}
use Rattle.callgraph.specs.Calls.{has_chain}
use Rattle.callgraph.proofs.chain.chains.Given as goal

abbrev pub invariant-loop-round : goal.invariant-loop-round
invariant-loop-round l = record {
  len : vec_len l.marks ≡ l.count;
  marks : (a : ℕ) → a < l.count → slice_index_or l.marks.items a false ≡ has_chain l.calls l._round a;
}
