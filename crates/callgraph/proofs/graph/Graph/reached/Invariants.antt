use Rattle.std.proofs.Common.{◌≡◌, ◌+◌, ◌-◌, List, length, count_by}
use Rattle.callgraph.specs.declared.Call.{Call}
use Rattle.callgraph.specs.Graphs.{IsGraph}
use Rattle.callgraph.proofs.Marking.{Walk}
use Rattle.callgraph.proofs.graph.Graph.reached.Given as goal

abbrev pub invariant-walk : goal.invariant-walk
invariant-walk l = record {
  len : length l.marks.items ≡ length l.self.rows.items;
  walk : (calls : List Call) → IsGraph calls l.self → Walk calls l.start l.marks.items l.pending.items;
}

abbrev pub decreases-walk : goal.decreases-walk
decreases-walk l = (length l.marks.items - count_by (λ m. m) l.marks.items) + length l.pending.items
