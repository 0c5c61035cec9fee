use Rattle.std.proofs.Common.{◌≡◌, ℕ, length, slice_index_or, vec_len, nat_eq, ◌&&◌, false, take}
use Rattle.std.specs.List.{list_any}
use Rattle.callgraph.proofs.chain.callers.Given as goal

abbrev pub invariant-loop-call : goal.invariant-loop-call
invariant-loop-call l = record {
  len : vec_len l.next ≡ length l.marks;
  marks : (a : ℕ) → slice_index_or l.next.items a false
      ≡ list_any (λ c. nat_eq c.caller a && slice_index_or l.marks c.callee false) (take l.call-index l.calls);
}
