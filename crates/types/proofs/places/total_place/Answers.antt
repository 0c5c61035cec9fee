use Rattle.std.proofs.Common.{◌∙◌}
use Rattle.types.proofs.FirstPlaces.{total_first}
use Rattle.types.proofs.places.total_place.Goals as goal

pub returns : goal.returns
returns c = c.term_place.ensures ∙ total_first c.args.total.now
