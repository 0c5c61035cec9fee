use Rattle.std.proofs.Common.{◌≡◌, length, vec_len}
use Rattle.runner.specs.CalmCode.{IsClosed}
use Rattle.runner.proofs.calm_places.CalmPlaces.new.Given as goal

abbrev pub invariant-loop-pass : goal.invariant-loop-pass
invariant-loop-pass g l = record {
  len : vec_len l.places ≡ length l.image.code;
  closed : IsClosed l.image.code l.places.items;
}
