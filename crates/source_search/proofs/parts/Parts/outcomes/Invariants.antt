use Rattle.std.proofs.Common.{take}
use Rattle.program.specs.Views.{program_of}
use Rattle.source_reaching.specs.Ends.{ends_in}
use Rattle.source_search.specs.Known.{AreOutcomes}
use Rattle.source_search.specs.Packed.{IsGrown}
use Rattle.source_search.proofs.parts.Parts.outcomes.Given as goal

abbrev pub invariant-loop-k : goal.invariant-loop-k
invariant-loop-k l = record {
  grown : IsGrown l.fn.self l.self;
  numbered : AreOutcomes (program_of l.checked.tree) l.self l.spot.process (ends_in (take l.k l.ends)) l.outcomes.items;
}
