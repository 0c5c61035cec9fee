use Rattle.std.proofs.Common.{◌≡◌, ◌<◌, Some, slice_get, suc, true, ℕ}
use Rattle.image_search.specs.Kept.{IsSound}
use Rattle.image_search.specs.Living.{HoldsAt, IsClosed, IsStill}
use Rattle.image_search.proofs.closing.is_closed.Given as goal

abbrev pub invariant-loop-place : goal.invariant-loop-place
invariant-loop-place l = record {
  sound : IsSound l.kept;
  still : IsStill l.fn.kept l.kept;
  closed : (i : ℕ) → i < l.place → slice_get l.flags i ≡ Some true
      → HoldsAt l.image l.kept i (IsClosed l.image (suc l.k) l.kept l.flags);
}
