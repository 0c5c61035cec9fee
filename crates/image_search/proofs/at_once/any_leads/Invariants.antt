use Rattle.image_search.specs.Kept.{IsSound}
use Rattle.image_search.specs.Living.{IsStill}
use Rattle.image_search.proofs.at_once.any_leads.Given as goal

abbrev pub invariant-loop-k : goal.invariant-loop-k
invariant-loop-k l = record {
  sound : IsSound l.kept;
  still : IsStill l.fn.kept l.kept;
}
