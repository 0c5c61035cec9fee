use Rattle.std.proofs.Common.{◌≡◌}
use Rattle.program.specs.Views.{program_of}
use Rattle.source_search.specs.Kept.{IsSound, states_of}
use Rattle.source_search.specs.Known.{AreKnown}
use Rattle.source_search.specs.Packed.{IsGrown}
use Rattle.source_search.proofs.kept.Kept.goes_on.Given as goal

abbrev pub invariant-loop-place : goal.invariant-loop-place
invariant-loop-place l = record {
  sound : IsSound l.self;
  grown : IsGrown l.fn.self.parts l.self.parts;
  known : AreKnown (program_of l.checked.tree) l.self.parts l.memo;
  same : states_of l.self ≡ states_of l.fn.self;
}
