use Rattle.std.proofs.Common.{ℕ}
use Rattle.image_search.specs.Kept.{IsSound}
use Rattle.image_search.specs.Living.{AreKnown, IsStill}
use Rattle.image_search.proofs.at_once.mark_often.Given as goal

abbrev pub invariant-loop : goal.invariant-loop
invariant-loop l = record {
  sound : IsSound l.kept;
  still : IsStill l.fn.kept l.kept;
  known : (t : ℕ) → AreKnown l.image t l.kept l.flags.items;
}
