use Rattle.std.proofs.Common.{ℕ, suc, take}
use Rattle.program.specs.Views.{program_of}
use Rattle.source_reaching.specs.Among.{AreCovered}
use Rattle.source_search.specs.Kept.{IsLonger, IsSound, states_of}
use Rattle.source_search.specs.Known.{behind_all}
use Rattle.source_search.specs.Packed.{IsGrown, unpacked}
use Rattle.source_search.proofs.kept.Kept.cover_known.Given as goal

abbrev pub invariant-loop-k : goal.invariant-loop-k
invariant-loop-k l = record {
  sound : IsSound l.self;
  grown : IsGrown l.fn.self.parts l.self.parts;
  longer : IsLonger (states_of l.fn.self) (states_of l.self);
  covered : (n : ℕ) × AreCovered (program_of l.checked.tree) (states_of l.self) n
      (unpacked l.fn.self.parts l.packed).process (behind_all l.fn.self.parts (suc l.place) (take l.k l.outcomes));
}
