use Rattle.std.proofs.Common.{◌≡◌, ◌<◌, ℕ, List, slice_index_or, true, false, count_by}
use Rattle.callgraph.specs.declared.Call.{Call}
use Rattle.callgraph.specs.Calls.{IsCall}
use Rattle.callgraph.specs.Graphs.{IsGraph}
use Rattle.callgraph.specs.Marks.{AreSettled}
use Rattle.callgraph.proofs.graph.Graph.sweep.Given as goal

abbrev pub invariant-loop-number : goal.invariant-loop-number
invariant-loop-number l = record {
  fewer : l.swept ≡ true → count_by (λ m. m) l.marks < count_by (λ m. m) l.initial.marks;
  same : l.swept ≡ false → l.marks ≡ l.initial.marks;
  settled : (calls : List Call) → IsGraph calls l.self → AreSettled calls l.initial.marks → AreSettled calls l.marks;
  call_marked : l.swept ≡ false → (calls : List Call) → IsGraph calls l.self → (a : ℕ) → a < l.number
      → slice_index_or l.initial.marks a false ≡ true
      → (b : ℕ) × IsCall calls a b × (slice_index_or l.initial.marks b false ≡ true);
}
