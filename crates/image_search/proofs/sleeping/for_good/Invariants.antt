use Rattle.image_search.specs.Kept.{IsSound}
use Rattle.image_search.proofs.sleeping.for_good.Given as goal

abbrev pub invariant-loop-place : goal.invariant-loop-place
invariant-loop-place l = IsSound l.kept
