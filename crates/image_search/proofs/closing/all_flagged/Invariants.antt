use Rattle.std.proofs.Common.{◌<◌, suc, ℕ}
use Rattle.image_search.specs.Kept.{IsSound}
use Rattle.image_search.specs.Living.{HoldsAt, IsStill, OwnLeads}
use Rattle.image_search.proofs.closing.all_flagged.Given as goal

abbrev pub invariant-loop-u : goal.invariant-loop-u
invariant-loop-u l = record {
  sound : IsSound l.kept;
  still : IsStill l.fn.kept l.kept;
  leads : (j : ℕ) → j < l.u → HoldsAt l.image l.kept l.place (OwnLeads l.image l.kept l.flags (suc j));
}
