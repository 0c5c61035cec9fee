use Rattle.runner.proofs.Joining.{IsJoined, With}
use Rattle.runner.proofs.thread_bits.ThreadBits.put_all.Given as goal

abbrev pub invariant-loop-place : goal.invariant-loop-place
invariant-loop-place l = IsJoined With l.fn.self.words l.others.words l.self.words l.place
