use Rattle.lowering.proofs.Linking.{unlinked_moves}
use Rattle.lowering.proofs.laws.link_laws.Goals as goal

pub returns : goal.returns
returns c = unlinked_moves
