use Rattle.protocol.proofs.Starts.{every_start_under}
use Rattle.protocol.proofs.every_start_is_a_move_under.Goals as goal

pub returns : goal.returns
returns c = every_start_under
