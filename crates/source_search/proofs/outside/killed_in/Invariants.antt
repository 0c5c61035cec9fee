use Rattle.std.proofs.Common.{◌≡◌, ◌≤◌}
use Rattle.source_states.specs.States.{state_of}
use Rattle.source_search.specs.Found.{killed_to}
use Rattle.source_search.proofs.outside.killed_in.Given as goal

abbrev pub invariant-loop-before : goal.invariant-loop-before
invariant-loop-before l = record {
  counted : l.killed ≡ killed_to (state_of l.state).process l.before;
  few : l.killed ≤ l.before;
}
