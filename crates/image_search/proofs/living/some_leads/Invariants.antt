use Rattle.image_search.specs.Kept.{IsSound}
use Rattle.image_search.specs.Living.{IsStill}
use Rattle.image_search.proofs.living.some_leads.Given as goal

abbrev pub invariant-loop-number : goal.invariant-loop-number
invariant-loop-number l = record {
  sound : IsSound l.kept;
  still : IsStill l.fn.kept l.kept;
}
