use Rattle.std.proofs.Common.{◌<◌, All, length, take}
use Rattle.source_states.specs.States.{state_of}
use Rattle.source_search.specs.Packed.{IsGrown}
use Rattle.source_search.specs.Spots.{IsMergedTo}
use Rattle.source_search.proofs.parts.Parts.merge_processes.Given as goal

abbrev pub invariant-loop-number : goal.invariant-loop-number
invariant-loop-number l = record {
  grown : IsGrown l.fn.self l.self;
  so_far : All (λ n. n < length l.fn.self.processes.items) l.processes
      → IsMergedTo l.fn.self.processes.items l.self.processes.items l.processes (state_of l.state).process
      (take l.number-index l.numbers) l.parts.items;
}
