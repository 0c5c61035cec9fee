use Rattle.runner.proofs.Joining.{IsJoined, Without}
use Rattle.runner.proofs.thread_bits.ThreadBits.take_all.Given as goal

abbrev pub invariant-loop-place : goal.invariant-loop-place
invariant-loop-place l = IsJoined Without l.fn.self.words l.others.words l.self.words l.place
