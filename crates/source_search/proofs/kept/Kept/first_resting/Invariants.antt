use Rattle.std.proofs.Common.{◌<◌, ℕ, Some, suc}
use Rattle.program.specs.Views.{program_of}
use Rattle.source_search.specs.Kept.{states_in}
use Rattle.source_search.specs.Known.{AreKnown}
use Rattle.source_search.specs.Living.{AreLiveFor}
use Rattle.source_search.specs.Packed.{IsGrown}
use Rattle.source_search.proofs.kept.Kept.first_resting.Given as goal

abbrev pub invariant-loop-before : goal.invariant-loop-before
invariant-loop-before l = record {
  grown : IsGrown l.fn.self.parts l.self.parts;
  known : AreKnown (program_of l.checked.tree) l.self.parts l.memo;
  live : (k : ℕ) → k < l.before
      → AreLiveFor (program_of l.checked.tree) (Some (suc k)) (states_in l.fn.self.parts l.states);
}
