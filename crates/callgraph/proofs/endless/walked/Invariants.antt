use Rattle.std.proofs.Common.{◌≡◌, List, length}
use Rattle.callgraph.specs.declared.Call.{Call}
use Rattle.callgraph.specs.Graphs.{IsGraph}
use Rattle.callgraph.specs.Marks.{AreSettled}
use Rattle.callgraph.proofs.endless.walked.Given as goal

abbrev pub invariant-loop-step : goal.invariant-loop-step
invariant-loop-step l = record {
  len : length l.marks.items ≡ length l.graph.rows.items;
  settled : (calls : List Call) → IsGraph calls l.graph → AreSettled calls l.marks.items;
}
