use Rattle.program.specs.Views.{program_of}
use Rattle.source_search.specs.Kept.{IsSound, states_of}
use Rattle.source_search.specs.Known.{AreKnown}
use Rattle.source_search.specs.Living.{AreLiveTo}
use Rattle.source_search.specs.Packed.{IsGrown}
use Rattle.source_search.proofs.kept.Kept.look_back.Given as goal

abbrev pub invariant-loop-behind : goal.invariant-loop-behind
invariant-loop-behind l = record {
  sound : IsSound l.self;
  grown : IsGrown l.fn.self.parts l.self.parts;
  known : AreKnown (program_of l.checked.tree) l.self.parts l.memo;
  live : AreLiveTo (program_of l.checked.tree) l.aim (states_of l.self);
}
