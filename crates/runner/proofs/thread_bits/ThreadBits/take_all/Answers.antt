use Rattle.std.proofs.Common.{arith}
use Rattle.runner.proofs.Joining.{Without, not_yet, one_more, take_so}
use Rattle.runner.proofs.thread_bits.ThreadBits.take_all.Goals as goal

pub loop-place-init : goal.loop-place-init
loop-place-init c = not_yet Without c.args.self.now.words c.args.others.now.words

pub loop-place-preserved : goal.loop-place-preserved
loop-place-preserved c =
    one_more Without c.args.self.now.words c.args.others.now.words c.loop-place.self.words c.loop-place.place
    c.without.result (omega arith) c.loop-place.invariant (omega arith) c.without.ensures

pub returns : goal.returns
returns c = λ t out.
    take_so c.args.self.now.words c.args.others.now.words c.loop-place.self.words t c.loop-place.place (omega arith)
    (omega arith) c.loop-place.invariant out
