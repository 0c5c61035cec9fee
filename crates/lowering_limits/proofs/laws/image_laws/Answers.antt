use Rattle.lowering_limits.proofs.Images.{within}
use Rattle.lowering_limits.proofs.Memory.{inside}
use Rattle.lowering_limits.proofs.laws.image_laws.Goals as goal

pub returns : goal.returns
returns c = record { within = within; inside = inside }
