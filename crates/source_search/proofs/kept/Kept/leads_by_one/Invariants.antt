use Rattle.std.proofs.Common.{◌≡◌}
use Rattle.source_search.specs.Kept.{IsSound, states_of}
use Rattle.source_search.specs.Packed.{IsGrown}
use Rattle.source_search.proofs.kept.Kept.leads_by_one.Given as goal

abbrev pub invariant-loop-k : goal.invariant-loop-k
invariant-loop-k l = record {
  sound : IsSound l.self;
  grown : IsGrown l.fn.self.parts l.self.parts;
  same : states_of l.self ≡ states_of l.fn.self;
}
