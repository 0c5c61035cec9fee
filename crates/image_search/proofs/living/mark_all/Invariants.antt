use Rattle.std.proofs.Common.{suc}
use Rattle.image_search.specs.Kept.{IsSound}
use Rattle.image_search.specs.Living.{AreKnown, IsStill}
use Rattle.image_search.proofs.living.mark_all.Given as goal

abbrev pub invariant-loop-place : goal.invariant-loop-place
invariant-loop-place l = record {
  sound : IsSound l.kept;
  still : IsStill l.fn.kept l.kept;
  known : AreKnown l.image (suc l.k) l.kept l.flags.items;
}
