use Rattle.runner.proofs.Joining.{all_there}
use Rattle.runner.proofs.thread_bits.ThreadBits.all.Goals as goal

pub returns : goal.returns
returns c = λ t is. all_there t is
