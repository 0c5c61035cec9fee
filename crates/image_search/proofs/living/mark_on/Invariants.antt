use Rattle.std.proofs.Common.{suc}
use Rattle.image_search.specs.Kept.{IsSound}
use Rattle.image_search.specs.Living.{AreKnown, IsStill}
use Rattle.image_search.proofs.living.mark_on.Given as goal

abbrev pub invariant-loop : goal.invariant-loop
invariant-loop l = record {
  sound : IsSound l.kept;
  still : IsStill l.fn.kept l.kept;
  known : AreKnown l.image (suc l.k) l.kept l.flags.items;
}
