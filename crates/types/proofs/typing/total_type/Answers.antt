use Rattle.types.proofs.Operators.{total_type}
use Rattle.types.proofs.typing.total_type.Goals as goal

pub returns : goal.returns
returns c s = total_type s c.args._total.now
