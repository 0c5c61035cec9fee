use Rattle.types.proofs.Operators.{product_type}
use Rattle.types.proofs.typing.product_type.Goals as goal

pub returns : goal.returns
returns c s = product_type s c.args._product.now
