use Rattle.source_states.specs.States.{state_of}
use Rattle.source_search.specs.Packed.{ArePackedTo, IsGrown}
use Rattle.source_search.proofs.parts.Parts.pack_processes.Given as goal

abbrev pub invariant-loop-k : goal.invariant-loop-k
invariant-loop-k l = record {
  grown : IsGrown l.fn.self l.self;
  so_far : ArePackedTo l.k l.self.processes.items l.parts.items l.numbers (state_of l.state).process;
}
