use Rattle.std.proofs.Common.{◌≡◌}
use Rattle.source_search.specs.Kept.{IsSound, states_of}
use Rattle.source_search.specs.Packed.{IsGrown}
use Rattle.source_search.proofs.kept.Kept.goes_by_choice.Given as goal

abbrev pub invariant-loop-place : goal.invariant-loop-place
invariant-loop-place l = record {
  sound : IsSound l.self;
  grown : IsGrown l.fn.self.parts l.self.parts;
  same : states_of l.self ≡ states_of l.fn.self;
}
