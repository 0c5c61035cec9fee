use Rattle.std.proofs.Common.{length, refl}
use Rattle.std.proofs.lemmas.Option.{slice_get_read}
use Rattle.image_search.proofs.kept.find.Goals as goal

pub returns-then-is_same : goal.returns-then-is_same
returns-then-is_same c = (
  c.in-Some-get.kept.now,
  slice_get_read c.args.states.now (length c.args.states.now) c.in-Some.found.number c.in-Some-get.kept.now refl
      c.in-Some-get.ensures.lookup.3.0 c.in-Some-get.ensures.lookup.1,
  c.is_same.ensures c.if-is_same.true,
)
