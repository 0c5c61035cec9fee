use Rattle.image_search.specs.Kept.{IsSound}
use Rattle.image_search.specs.Living.{IsStill}
use Rattle.image_search.proofs.graph.Graph.fill.Given as goal

abbrev pub invariant-loop-place : goal.invariant-loop-place
invariant-loop-place l = record {
  sound : IsSound l.kept;
  still : IsStill l.fn.kept l.kept;
}
