use Rattle.std.proofs.Common.{arith, refl}
use Rattle.runner.proofs.Joining.{With, not_yet, one_more, put_so}
use Rattle.runner.proofs.thread_bits.ThreadBits.put_all.Goals as goal

pub loop-place-init : goal.loop-place-init
loop-place-init c = not_yet With c.args.self.now.words c.args.others.now.words

pub loop-place-preserved : goal.loop-place-preserved
loop-place-preserved c =
    one_more With c.args.self.now.words c.args.others.now.words c.loop-place.self.words c.loop-place.place _ (omega arith)
    c.loop-place.invariant (omega arith) refl

pub returns : goal.returns
returns c = λ t out.
    put_so c.args.self.now.words c.args.others.now.words c.loop-place.self.words t c.loop-place.place (omega arith)
    (omega arith) (omega arith) c.loop-place.invariant out
