use Rattle.std.proofs.Common.{◌∙◌}
use Rattle.types.proofs.FirstPlaces.{product_first}
use Rattle.types.proofs.places.product_place.Goals as goal

pub returns : goal.returns
returns c = c.factor_place.ensures ∙ product_first c.args.product.now
