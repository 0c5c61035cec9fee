use Rattle.lowering.proofs.LengthLaws.{pieces_stand}
use Rattle.lowering.proofs.laws.piece_laws.Goals as goal

pub returns : goal.returns
returns c = pieces_stand
