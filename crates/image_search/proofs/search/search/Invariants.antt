use Rattle.std.proofs.Common.{◌≡◌}
use Rattle.image_states.specs.Nexts.{may_of}
use Rattle.image_search.specs.Kept.{IsSound, states_of}
use Rattle.image_search.proofs.Searched.{IsSoFar}
use Rattle.image_search.proofs.search.search.Given as goal

abbrev pub invariant-loop-place : goal.invariant-loop-place
invariant-loop-place g l = record {
  sound : IsSound l.kept;
  most : l.kept.most ≡ l.fn.kept.most;
  alone : l.kept.parts.alone ≡ l.fn.kept.parts.alone;
  so_far : IsSoFar l.image l.kept.parts.alone (may_of l.outside) (states_of l.image l.kept) l.place l.passed;
}
