use Rattle.program.specs.Views.{program_of}
use Rattle.source_search.specs.Covered.{IsAheadOf}
use Rattle.source_search.specs.Packed.{IsGrown, IsWithin}
use Rattle.source_search.proofs.parts.Parts.settle.Given as goal

abbrev pub invariant-loop : goal.invariant-loop
invariant-loop g l = record {
  grown : IsGrown l.fn.self l.self;
  ahead : IsWithin l.fn.self l.fn.packed → IsAheadOf (program_of l.checked.tree) l.fn.self l.self l.fn.packed l.settled;
}
