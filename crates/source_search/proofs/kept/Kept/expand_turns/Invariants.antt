use Rattle.std.proofs.Common.{◌≡◌, ◌<◌, ℕ, suc, true}
use Rattle.program.specs.Views.{program_of}
use Rattle.meaning.specs.Runs.{CanMove}
use Rattle.proof_exploration.specs.Exploring.{awake}
use Rattle.source_search.specs.Covered.{IsFollowedOwn}
use Rattle.source_search.specs.Kept.{IsLonger, IsSound, states_of}
use Rattle.source_search.specs.Known.{AreKnown}
use Rattle.source_search.specs.Packed.{IsGrown, unpacked}
use Rattle.source_search.proofs.kept.Kept.expand_turns.Given as goal

abbrev pub invariant-loop-place : goal.invariant-loop-place
invariant-loop-place l = record {
  sound : IsSound l.self;
  grown : IsGrown l.fn.self.parts l.self.parts;
  longer : IsLonger (states_of l.fn.self) (states_of l.self);
  followed : (k : ℕ) → k < l.place → IsFollowedOwn (program_of l.checked.tree) (states_of l.self)
      (awake l.strays (suc k) (unpacked l.fn.self.parts l.packed)) (suc k);
  moves : l.moves ≡ true → (t : ℕ) × CanMove (program_of l.checked.tree) (unpacked l.fn.self.parts l.packed) t;
  known : AreKnown (program_of l.checked.tree) l.self.parts l.memo;
}
