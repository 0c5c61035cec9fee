use Rattle.std.proofs.Common.{◌≡◌, take}
use Rattle.source_states.specs.States.{state_of}
use Rattle.source_search.specs.Packed.{processes_at}
use Rattle.source_search.proofs.parts.Parts.unpack_processes.Given as goal

abbrev pub invariant-loop-k : goal.invariant-loop-k
invariant-loop-k l = state_of l.state ≡ record (state_of l.fn.state) {
  process = processes_at l.self.processes.items (take l.k l.parts);
}
