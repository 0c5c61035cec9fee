use Rattle.std.proofs.Common.{◌≡◌, List, length, count_by}
use Rattle.callgraph.specs.declared.Call.{Call}
use Rattle.callgraph.specs.Graphs.{IsGraph}
use Rattle.callgraph.specs.Marks.{AreSettled}
use Rattle.callgraph.proofs.graph.Graph.endless_chains.Given as goal

abbrev pub invariant-sweeps : goal.invariant-sweeps
invariant-sweeps l = record {
  len : length l.marks.items ≡ length l.self.rows.items;
  settled : (calls : List Call) → IsGraph calls l.self → AreSettled calls l.marks.items;
}

abbrev pub decreases-sweeps : goal.decreases-sweeps
decreases-sweeps l = count_by (λ m. m) l.marks.items
